use Rattle.std.proofs.Common.{◌<◌, ◌≤◌, [], ◌∷◌, ◌++◌, take, All, ap, sym, subst, ◌∙◌, arith}
use Rattle.std.proofs.lemmas.List.{take_more_set}
use Rattle.pb_pcap.specs.declared.fields.Field.{Field}
use Rattle.pb_pcap.specs.Fields.{size_of}
use Rattle.pb_pcap.proofs.FieldLemmas.{size_limit, has_room, made, added_field}
use Rattle.pb_pcap.proofs.layouts.Layout.add.Goals as goal

pub overflow_add-self : goal.overflow_add-self
overflow_add-self c =
    let limit : size_of (take c.self.inside.len c.self.inside.fields) ≤ 240 = size_limit _ c.self.invariant.3 in
    omega (arith, limit, c.self.invariant.2, c.size.ensures.small)

pub bounds-self-inside-self-inside : goal.bounds-self-inside-self-inside
bounds-self-inside-self-inside c =
    has_room c.self.inside.fields c.self.inside.len c.args.entry c.self.invariant.0 c.self.invariant.1 c.self.invariant.3
    (subst (All (λ (field : Field). field.entry < c.args.entry)) (sym c.self.view_is) c.requires.above) c.requires.field.named

pub invariant_of-self : goal.invariant_of-self
invariant_of-self c =
    added_field c.self.inside.fields c.self.inside.len c.self.inside.size c.size.result _ c.self.invariant.0 c.self.invariant.1
    c.self.invariant.2 c.self.invariant.3
    (subst (All (λ (field : Field). field.entry < c.args.entry)) (sym c.self.view_is) c.requires.above) c.requires.field
    c.size.ensures.value

pub returns : goal.returns
returns c =
    let room =
    has_room c.self.inside.fields c.self.inside.len c.args.entry c.self.invariant.0 c.self.invariant.1 c.self.invariant.3
    (subst (All (λ (field : Field). field.entry < c.args.entry)) (sym c.self.view_is) c.requires.above) c.requires.field.named in
    let field = made c.args.entry c.args.choice c.args.scale c.args.offset c.args.units in
    take_more_set c.self.inside.fields c.self.inside.len field (omega (arith, room, c.self.invariant.0))
    ∙ ap (λ fields. fields ++ field ∷ []) c.self.view_is
