-- What a target names: what is asked with a star, all fields of a block, all attributes of a field, or a slot.
use Rattle.std.specs.Prelude.{ℕ, nat_eq, Bool, List, [], ◌∷◌, Some, None, Result, Ok, Err, codes, is_some, position, if◌then◌else◌}
use Rattle.std.specs.Cmp.Lexicographic.{pointwise}
use Rattle.std.specs.Option.{option_map_or}
use Rattle.pb_words.specs.declared.Refusal.{Refusal}
use Rattle.pb_words.specs.declared.Refusal.TheVariants as refusals
use Rattle.pb_words.specs.Refusing.{result_map}
use Rattle.pb_fields.specs.Finding.{found_of, block_found, is_point}
use Rattle.pb_grammar.specs.Grammar.{after_front, before_end}
use Rattle.pb_changes.specs.declared.Group.TheVariants as groups
use Rattle.pb_core.specs.declared.targets.Named.{Named}
use Rattle.pb_core.specs.declared.targets.Named.TheVariants as names

-- the texts are the same
abbrev pub is_same : List ℕ → List ℕ → Bool
is_same text other = pointwise nat_eq text other

-- the text has a point
abbrev pub has_point : List ℕ → Bool
has_point text = is_some (position is_point text)

-- `*ENUMS.LUT1.INPA`: the target after `*ENUMS.` is a field or an attribute
abbrev pub labels_named : List ℕ → Result Named Refusal
labels_named target =
    if has_point target then result_map names.Labels (found_of target) else Err refusals.NoSuchField

-- `*PCAP.ARM` and the others of capture, by what stands after the point
abbrev pub capture_named : List ℕ → Result Named Refusal
capture_named name =
    if is_same name (codes "ARM") then Ok names.Arming
    else (if is_same name (codes "DISARM") then Ok names.Disarming
    else (if is_same name (codes "STATUS") then Ok names.Status
    else (if is_same name (codes "CAPTURED") then Ok names.Captured
    else (if is_same name (codes "COMPLETION") then Ok names.Completion else Err refusals.NoSuchField))))

-- `*CHANGES.CONFIG` and the other groups of a change report, by what stands after the point
abbrev pub changes_named : List ℕ → Result Named Refusal
changes_named name =
    if is_same name (codes "CONFIG") then Ok (names.Changes (Some groups.Config))
    else (if is_same name (codes "ATTR") then Ok (names.Changes (Some groups.Attr))
    else (if is_same name (codes "TABLE") then Ok (names.Changes (Some groups.Table))
    else (if is_same name (codes "BITS") then Ok (names.Changes (Some groups.Bits))
    else (if is_same name (codes "POSN") then Ok (names.Changes (Some groups.Posn))
    else (if is_same name (codes "READ") then Ok (names.Changes (Some groups.Read)) else Err refusals.NoSuchField)))))

-- the star targets, by what stands after the star
abbrev pub star_named : List ℕ → Result Named Refusal
star_named name =
    if is_same name (codes "IDN") then Ok names.Identity
    else (if is_same name (codes "WHO") then Ok names.Sessions
    else (if is_same name (codes "BLOCKS") then Ok names.Blocks
    else (if is_same name (codes "POSITIONS") then Ok names.Positions
    else (if is_same name (codes "CAPTURE") then Ok names.Captures
    else (if is_same name (codes "CHANGES") then Ok (names.Changes None)
    else option_map_or changes_named (after_front (codes "CHANGES.") name)
    (option_map_or capture_named (after_front (codes "PCAP.") name)
    (option_map_or labels_named (after_front (codes "ENUMS.") name) (Err refusals.NoSuchField))))))))

-- all that stand behind the star but for `ENUMS.` and its target: those without a point, the groups of a change report,
-- and the commands of capture

abbrev pub plain_names : List (List ℕ)
plain_names =
    codes "IDN" ∷ codes "WHO" ∷ codes "BLOCKS" ∷ codes "POSITIONS" ∷ codes "CAPTURE" ∷ codes "CHANGES" ∷ []

abbrev pub group_names : List (List ℕ)
group_names =
    codes "CHANGES.CONFIG" ∷ codes "CHANGES.ATTR" ∷ codes "CHANGES.TABLE" ∷ codes "CHANGES.BITS" ∷ codes "CHANGES.POSN"
    ∷ codes "CHANGES.READ" ∷ []

abbrev pub capture_names : List (List ℕ)
capture_names =
    codes "PCAP.ARM" ∷ codes "PCAP.DISARM" ∷ codes "PCAP.STATUS" ∷ codes "PCAP.CAPTURED" ∷ codes "PCAP.COMPLETION" ∷ []

-- `LUT1.INPA.*` names all attributes of a field, and `LUT1.*` all fields of a block
abbrev pub listing_named : List ℕ → Result Named Refusal
listing_named front =
    if has_point front then result_map names.Attributes (found_of front)
    else result_map names.Fields (block_found front)

-- a target of a block
abbrev pub block_named : List ℕ → Result Named Refusal
block_named target =
    option_map_or listing_named (before_end (codes ".*") target) (result_map names.Value (found_of target))

-- What a target names, or the first refusal that fits: of its block, its number, its field, its attribute.
unfoldable pub named_by : List ℕ → Result Named Refusal
named_by target = option_map_or star_named (after_front (codes "*") target) (block_named target)
