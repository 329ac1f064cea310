use Rattle.std.proofs.Common.{◌≡◌, ◌++◌, subst, OnOk, List, ℕ}
use Rattle.pb_changes.specs.declared.groups.Group.TheVariants as groups
use Rattle.pb_changes.specs.declared.marks.Marks.{Marks}
use Rattle.pb_changes.specs.Past.{Told}
use Rattle.pb_changes.proofs.LineLemmas.{config_lines, attr_lines, table_lines, bits_lines, posn_lines, reads_lines}
use Rattle.pb_changes.proofs.MarkLemmas.{at_group}
use Rattle.pb_changes.proofs.marks.Marks.add_group.Goals as goal

pub returns-in-Config-clause-lines : goal.returns-in-Config-clause-lines
returns-in-Config-clause-lines g c past reported agrees keeps =
    let marks : Marks = c.args.self.now in
    let told : Told = g.F.Face.told c.args.face.now in
    subst (λ (l : List ℕ). OnOk c.add_changed.result (c.add_changed.new.text ≡ c.args.text.now ++ l))
    (at_group c.args.group groups.Config marks.config told past reported c.in-Config.is (config_lines marks told past reported agrees keeps))
    (c.add_changed.ensures past agrees)

pub returns-in-Attr-clause-lines : goal.returns-in-Attr-clause-lines
returns-in-Attr-clause-lines g c past reported agrees keeps =
    let marks : Marks = c.args.self.now in
    let told : Told = g.F.Face.told c.args.face.now in
    subst (λ (l : List ℕ). OnOk c.add_changed-in-Attr.result (c.add_changed-in-Attr.new.text ≡ c.args.text.now ++ l))
    (at_group c.args.group groups.Attr marks.attr told past reported c.in-Attr.is (attr_lines marks told past reported agrees keeps))
    (c.add_changed-in-Attr.ensures past agrees)

pub returns-in-Table-clause-lines : goal.returns-in-Table-clause-lines
returns-in-Table-clause-lines g c past reported agrees keeps =
    let marks : Marks = c.args.self.now in
    let told : Told = g.F.Face.told c.args.face.now in
    subst (λ (l : List ℕ). OnOk c.add_changed-in-Table.result (c.add_changed-in-Table.new.text ≡ c.args.text.now ++ l))
    (at_group c.args.group groups.Table marks.table told past reported c.in-Table.is (table_lines marks told past reported agrees keeps))
    (c.add_changed-in-Table.ensures past agrees)

pub returns-in-Bits-clause-lines : goal.returns-in-Bits-clause-lines
returns-in-Bits-clause-lines g c past reported agrees keeps =
    let marks : Marks = c.args.self.now in
    let told : Told = g.F.Face.told c.args.face.now in
    subst (λ (l : List ℕ). OnOk c.add_changed-in-Bits.result (c.add_changed-in-Bits.new.text ≡ c.args.text.now ++ l))
    (at_group c.args.group groups.Bits marks.bits told past reported c.in-Bits.is (bits_lines marks told past reported agrees keeps))
    (c.add_changed-in-Bits.ensures past agrees)

pub returns-in-Posn-clause-lines : goal.returns-in-Posn-clause-lines
returns-in-Posn-clause-lines g c past reported agrees keeps =
    let marks : Marks = c.args.self.now in
    let told : Told = g.F.Face.told c.args.face.now in
    subst (λ (l : List ℕ). OnOk c.add_changed-in-Posn.result (c.add_changed-in-Posn.new.text ≡ c.args.text.now ++ l))
    (at_group c.args.group groups.Posn marks.posn told past reported c.in-Posn.is (posn_lines marks told past reported agrees keeps))
    (c.add_changed-in-Posn.ensures past agrees)

pub returns-in-Read-clause-lines : goal.returns-in-Read-clause-lines
returns-in-Read-clause-lines g c past reported agrees keeps =
    let marks : Marks = c.args.self.now in
    let told : Told = g.F.Face.told c.args.face.now in
    rw c.in-Read.is
    (subst (λ (l : List ℕ). OnOk c.add_reads.result (c.add_reads.new.text ≡ c.args.text.now ++ l))
    (reads_lines marks past reported told.shows c.read_values-values.result keeps c.read_values-values.ensures.values)
    c.add_reads.ensures)
