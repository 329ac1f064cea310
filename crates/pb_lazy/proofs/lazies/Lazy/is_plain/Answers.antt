use Rattle.std.proofs.Common.{Bool, subst}
use Rattle.pb_lazy.specs.Lazy.{IsSound}
use Rattle.pb_lazy.proofs.lazies.Lazy.is_plain.Goals as goal

pub is_quiet-requires : goal.is_quiet-requires
is_quiet-requires c = subst (λ (b : Bool). IsSound c.args.tick b c.args.self.now) c.if-first.false c.requires
