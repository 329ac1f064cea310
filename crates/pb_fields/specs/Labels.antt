-- The labels of enumerations and muxes.
use Rattle.std.specs.Prelude.{ℕ, ◌+◌, List, [], ◌∷◌, ◌++◌, map, slice_get, Option, Some, codes, if◌then◌else◌, ◌==◌}
use Rattle.std.specs.List.{range_with_len, flat_map}
use Rattle.pb_names.specs.declared.label_lists.TheConstants as label_lists
use Rattle.pb_names.specs.declared.bit_bus.TheConstants as bit_bus
use Rattle.pb_names.specs.declared.position_bus.TheConstants as position_bus

-- what an SRGATE puts out while it is disabled
abbrev pub when_disabled : List (List ℕ)
when_disabled = codes "Set output low" ∷ codes "Set output high" ∷ codes "Keep current output" ∷ []

-- the edges of a bit
abbrev pub edges : List (List ℕ)
edges = codes "Rising" ∷ codes "Falling" ∷ codes "Either" ∷ []

-- the output of a DIV that gets the first pulse
abbrev pub first_pulses : List (List ℕ)
first_pulses = codes "OutN" ∷ codes "OutD" ∷ []

-- the states of a SEQ
abbrev pub seq_states : List (List ℕ)
seq_states = codes "UNREADY" ∷ codes "WAIT_ENABLE" ∷ codes "WAIT_TRIGGER" ∷ codes "PHASE1" ∷ codes "PHASE2" ∷ []

-- how a PCOMP takes its START
abbrev pub relations : List (List ℕ)
relations = codes "Absolute" ∷ codes "Relative" ∷ []

-- the directions of a PCOMP
abbrev pub directions : List (List ℕ)
directions = codes "Positive" ∷ codes "Negative" ∷ codes "Either" ∷ []

-- the states of a PCOMP
abbrev pub pcomp_states : List (List ℕ)
pcomp_states =
    codes "WAIT_ENABLE" ∷ codes "WAIT_DIR" ∷ codes "WAIT_PRE_START" ∷ codes "WAIT_RISING" ∷ codes "WAIT_FALLING" ∷ []

-- what is captured of a position
abbrev pub position_captures : List (List ℕ)
position_captures =
    codes "No" ∷ codes "Value" ∷ codes "Min" ∷ codes "Max" ∷ codes "Sum" ∷ codes "Min Max" ∷ codes "Min Max Sum" ∷ []

-- what is captured of PCAP's own values
abbrev pub own_captures : List (List ℕ)
own_captures = codes "No" ∷ codes "Value" ∷ []

-- the units of a time
abbrev pub time_units : List (List ℕ)
time_units = codes "s" ∷ codes "ms" ∷ codes "us" ∷ []

-- the labels of the list of that number; a label's number is its place in the list
unfoldable pub label_list : ℕ → List (List ℕ)
label_list n =
    if n == label_lists.WHEN_DISABLED then when_disabled else
    (if n == label_lists.EDGE then edges else
    (if n == label_lists.FIRST_PULSE then first_pulses else
    (if n == label_lists.SEQ_STATE then seq_states else
    (if n == label_lists.RELATIVE then relations else
    (if n == label_lists.DIRECTION then directions else
    (if n == label_lists.PCOMP_STATE then pcomp_states else
    (if n == label_lists.POSITION_CAPTURE then position_captures else
    (if n == label_lists.FIELD_CAPTURE then own_captures else
    (if n == label_lists.TIME_UNITS then time_units else [])))))))))

-- the numbers of a block's instances as they are written, from 1
abbrev pub numbers : ℕ → List (List ℕ)
numbers count = map (λ i. (48 + i) ∷ []) (range_with_len 1 count)

-- the number of a block of one instance, which isn't written
abbrev pub no_number : List (List ℕ)
no_number = [] ∷ []

-- the names of these fields in each instance of a block
abbrev pub names : List ℕ → List (List ℕ) → List (List ℕ) → List (List ℕ)
names block numbers fields = flat_map (λ n. map (λ f. block ++ n ++ 46 ∷ f) fields) numbers

-- the outputs of a sequencer
abbrev pub seq_outputs : List (List ℕ)
seq_outputs =
    codes "OUTA" ∷ codes "OUTB" ∷ codes "OUTC" ∷ codes "OUTD" ∷ codes "OUTE" ∷ codes "OUTF" ∷ codes "ACTIVE" ∷ []

-- the names of the bit entries, in the order of their numbers
unfoldable pub bit_names : List (List ℕ)
bit_names =
    names (codes "TTLIN") (numbers 6) (codes "VAL" ∷ [])
    ++ names (codes "LUT") (numbers 8) (codes "OUT" ∷ [])
    ++ names (codes "SRGATE") (numbers 4) (codes "OUT" ∷ [])
    ++ names (codes "DIV") (numbers 4) (codes "OUTD" ∷ codes "OUTN" ∷ [])
    ++ names (codes "PULSE") (numbers 4) (codes "OUT" ∷ [])
    ++ names (codes "COUNTER") (numbers 8) (codes "CARRY" ∷ [])
    ++ names (codes "CLOCK") (numbers 2) (codes "OUT" ∷ [])
    ++ names (codes "SEQ") (numbers 2) seq_outputs
    ++ names (codes "PCOMP") (numbers 2) (codes "OUT" ∷ codes "ACTIVE" ∷ [])
    ++ names (codes "PCAP") no_number (codes "ACTIVE" ∷ [])
    ++ names (codes "BITS") no_number (codes "OUTA" ∷ codes "OUTB" ∷ codes "OUTC" ∷ codes "OUTD" ∷ [])

-- the names of the position entries, in the order of their numbers
unfoldable pub position_names : List (List ℕ)
position_names =
    names (codes "INENC") (numbers 4) (codes "VAL" ∷ [])
    ++ names (codes "COUNTER") (numbers 8) (codes "OUT" ∷ [])

-- the label of what a bit mux selects: ZERO, ONE, or the bit entry of that number
abbrev pub bit_mux_label : ℕ → Option (List ℕ)
bit_mux_label raw =
    if raw == bit_bus.ZERO then Some (codes "ZERO")
    else (if raw == bit_bus.ONE then Some (codes "ONE") else slice_get bit_names raw)

-- the label of what a position mux selects: ZERO, or the position entry of that number
abbrev pub position_mux_label : ℕ → Option (List ℕ)
position_mux_label raw = if raw == position_bus.ZERO then Some (codes "ZERO") else slice_get position_names raw
