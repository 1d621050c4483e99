-- Applying a delta but for the nodes that are named: the hub's own, which it alone writes. Datagrams come from anywhere, and a forged one may name them too. A named node answers Reject and
-- stays as it is, whatever the bytes say; one that the table does not hold answers Unknown, named or not. What is refused, and by which number, is as in `apply`.
use Rattle.std.specs.Prelude.{ℕ, List, [], ◌∷◌, length, leb}
use Rattle.std.proofs.Math.Option.{Option, none, some}
use Rattle.fields.specs.Numbers.{Bytes}
use Rattle.fields.specs.Choice.{pick}
use Rattle.fields.specs.Parts.{put}
use Rattle.rules.specs.Node.{Node}
use Rattle.rules.specs.Table.{Entry, Table, node_of, among}
use Rattle.rules.specs.Delta.{Part, Ops, Good, Faulty, parts_of}
use Rattle.rules.specs.Given.{Given, given}
use Rattle.rules.specs.Apply.{Ways, Taking, Stream, ApplyOutcome, taken_as, apply_node, on_node, codes, apply, ways_in}
use Rattle.rules.specs.Whole.{decode_whole, valid_whole}
use Rattle.rules.specs.Lent.{TableAndList, both, stored_apply}
use Rattle.rules.specs.declared.NodeAnswer.{NodeAnswer}
use Rattle.rules.specs.declared.NodeAnswer.TheVariants as node
use Rattle.rules.specs.declared.Refusal.TheVariants.{NoPlace, BadTable}
use Rattle.std.specs.Prelude.{Err, Ok, Result}
use Rattle.rules.specs.declared.DeltaFault.{DeltaFault}

-- ---- a node

abbrev pub left_alone : Taking
left_alone d n = taken_as node.Reject n

-- how the node with this number takes a node delta; the list has any length and any numbers
abbrev pub leaving : (own : List ℕ) (take : Taking) (number : ℕ) → Taking
leaving own take i = pick (among i own) left_alone take

-- ---- a table

-- as `apply_each` of `rules`, with the number of each node
unfoldable pub leaving_each : (own : List ℕ) (take : Taking) (parts : List Part) (table : Table) → Stream
leaving_each own take [] t = record { answers = []; table = t }
leaving_each own take (x ∷ xs) t = on_node (leaving own take x.number) x (node_of x.number t) t (leaving_each own take xs)

-- 8 where the list has too few places
abbrev pub leaving_parts : (own : List ℕ) (take : Taking) (parts : List Part) (table : Table) (list : Bytes) → ApplyOutcome
leaving_parts own take xs t l =
    pick (leb (length xs) (length l))
    (record { answer = Ok (length xs); table = (leaving_each own take xs t).table; list = put 0 (codes (leaving_each own take xs t).answers) l })
    (record { answer = (Err (record { why = NoPlace; at = 0 })); table = t; list = l })

abbrev pub leaving_ops : (own : List ℕ) (take : Taking) (read : Ops) (table : Table) (list : Bytes) → ApplyOutcome
leaving_ops own take (Good ops) t l = leaving_parts own take (parts_of ops) t l
leaving_ops own take (Faulty r at) t l = record { answer = (Err (record { why = r; at = at })); table = t; list = l }

-- Where none is named it is `apply`. The second line would say the same of no node (proofs/Left, `by-ops`).
unfoldable pub apply_leaving : (own : List ℕ) (ways : Ways) (delta : Bytes) (now : ℕ) (table : Table) (list : Bytes) → ApplyOutcome
apply_leaving [] ways bytes now t l = apply ways bytes now t l
apply_leaving (i ∷ is) ways bytes now t l = leaving_ops (i ∷ is) (apply_node ways now) (ways.reads bytes) t l

-- ---- on lent bytes, in any ways, and in those of the table's kind: 14 first

unfoldable pub lent_leaving_as : (own : List ℕ) (ways : Ways) (delta : Bytes) (now : ℕ) (list table : Bytes) → Given (Result ℕ DeltaFault) TableAndList
lent_leaving_as own ways delta now list table =
    pick (valid_whole table)
    (stored_apply (decode_whole table) (apply_leaving own ways delta now (decode_whole table).table list))
    (given (Err (record { why = BadTable; at = 0 })) (both table list))

abbrev pub lent_leaving : (own : List ℕ) (delta : Bytes) (now : ℕ) (list table : Bytes) → Given (Result ℕ DeltaFault) TableAndList
lent_leaving own delta now list table = lent_leaving_as own (ways_in (decode_whole table).kind) delta now list table

-- ---- what is left, in one word: `kept` and `told` say what `apply_leaving` does by what `apply` does (proofs/Left)

-- an entry of a table after a delta: a named node is the one before it
abbrev pub kept_entry : (own : List ℕ) (before after : Entry) → Entry
kept_entry own e f = record { number = f.number; node = pick (among f.number own) e.node f.node }

-- of a table before and after
unfoldable pub kept : (own : List ℕ) (before after : Table) → Table
kept own [] u = u
kept own (e ∷ t) [] = []
kept own (e ∷ t) (f ∷ u) = kept_entry own e f ∷ kept own t u

-- what a node answers that is left alone
abbrev pub left_answer : Option Node → NodeAnswer
left_answer none = node.Unknown
left_answer (some n) = node.Reject

-- the answers to these node deltas, by those of `apply`
unfoldable pub told : (own : List ℕ) (before : Table) (parts : List Part) (answers : List NodeAnswer) → List NodeAnswer
told own t [] l = l
told own t (x ∷ xs) [] = []
told own t (x ∷ xs) (a ∷ l) = pick (among x.number own) (left_answer (node_of x.number t)) a ∷ told own t xs l
