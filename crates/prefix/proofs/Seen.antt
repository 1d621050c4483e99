-- What is said of the piece of a node's rows that a party sees is said of the node that it sees. Assumes nothing.
use Prim.Native.Nat.{ℕ, ◌+◌, ◌≤◌}
use mathlib.Core.Path.{◌≡◌, refl, ap, sym, ◌∙◌, subst}
use mathlib.Core.Bool.{true}
use mathlib.Core.List.{List}
use mathlib.Core.Option.{Option, some}
use lib.ListN.{length, take, drop}
use lib.Dec.{leb}
use Rattle.fields.specs.Choice.{pick}
use Rattle.rules.specs.Sizes.{max_key}
use Rattle.rules.specs.Given.{given, Gives}
use Rattle.rules.specs.Node.{Rec, Node, hits_from}
use Rattle.rules.specs.Table.{Table, node_of, keys_rise}
use Rattle.rules.specs.Party.{seen_recs}
use Rattle.rules.specs.Profile.{recs_formed}
use Rattle.rules.specs.Local.{list_into, prefix_on, prefixed, prefixed_as}
use Rattle.rules.specs.Layout.{decode_node, decode}
use Rattle.rules.specs.Whole.{area_of, decode_whole, valid_whole}
use Rattle.rules.specs.Lent.{lent_prefixed}
use Rattle.std.specs.Prelude.{Err, Result}
use Rattle.inspect.specs.declared.Rows.{Rows}
use Rattle.rules.specs.declared.Refusal.{Refusal}
use Rattle.rules.specs.declared.Refusal.TheVariants.{TooLong, BadTable}
use Rattle.rules.specs.declared.Profile.{Profile}
use Rattle.rules.specs.declared.Party.{Party}
use Rattle.table.specs.Tests.{count_of, recs_in}
use Rattle.table.proofs.Places.{length-recs}
use Rattle.table_read.proofs.Entry.{fill-good}
use Rattle.own_rows.specs.Sight.{sight_in, seen_node, seen_held}
use Rattle.own_rows.specs.declared.Sight.{Sight}
use Rattle.own_rows.proofs.Laws.{seen-piece, seen-within}
use Rattle.own_rows.proofs.Tables.{seen-recs, node_seen}
use Rattle.prefix.specs.Run.{piece_node}
use Rattle.prefix.specs.Rows.{run_rows, prefix_rows_on}

module _ (p : Profile) (q : Party) (b : List ℕ) (rises : keys_rise (recs_in b) ≡ true) (formed : recs_formed p (recs_in b) ≡ true) (s : Sight) (e : s ≡ sight_in p q (recs_in b)) where
  -- the piece lies within the node's rows
  pub piece-within : s.low + s.count ≤ count_of b
  piece-within = rw (e, sym (length-recs b)) (seen-within p q (recs_in b) rises formed)

  -- and is what the party sees
  pub piece-seen : take s.count (drop s.low (recs_in b)) ≡ seen_recs p q (recs_in b)
  piece-seen = ap (λ (x : Sight). take x.count (drop x.low (recs_in b))) e ∙ sym (seen-piece p q (recs_in b) rises formed)

  piece_is : take s.count (drop s.low (recs_in b)) ≡ (seen_node p q (decode_node b).node).recs
  piece_is = piece-seen ∙ sym (seen-recs p q (decode_node b).node)

  pub seen-fills : (k l : List ℕ) (a : (Result ℕ Refusal)) (m : List ℕ) → Gives (prefix_on k (some (piece_node s.low s.count b)) l) a m
      → Gives (prefix_on k (seen_held p q (some (decode_node b).node)) l) a m
  seen-fills k l a m h =
      subst (λ (x : List Rec). Gives (pick (leb (length k) max_key) (list_into (hits_from k 0 x) l) (given (Err TooLong) l)) a m) piece_is h

  pub seen-says : (k : List ℕ) (start : ℕ) (r : (Result Rows Refusal)) → r ≡ prefix_rows_on k start (some (piece_node s.low s.count b))
      → r ≡ prefix_rows_on k start (seen_held p q (some (decode_node b).node))
  seen-says k start r h = h ∙ ap (λ (x : List Rec). pick (leb (length k) max_key) (run_rows k start x) (Err TooLong)) piece_is

-- the node of the table that it sees
pub table-fills : (p : Profile) (q : Party) (number : ℕ) (t : Table) (k l : List ℕ) (a : (Result ℕ Refusal)) (m : List ℕ) → Gives (prefix_on k (seen_held p q (node_of number t)) l) a m
    → Gives (prefixed_as p q number k t l) a m
unfolding prefixed_as prefixed
table-fills p q number t k l a m h = subst (λ (o : Option Node). Gives (prefix_on k o l) a m) (sym (node_seen p q number t)) h

-- the table that lent bytes are, in its own profile
pub whole-fills : (w : List ℕ) → valid_whole w ≡ true → (p : Profile) → p ≡ (decode_whole w).kind.profile → (q : Party) (number : ℕ) (k l : List ℕ) (a : (Result ℕ Refusal)) (m : List ℕ)
    → Gives (prefixed_as p q number k (decode (area_of w)) l) a m → Gives (lent_prefixed q number k l w) a m
whole-fills w v p e q number k l a m h =
    fill-good (λ t. prefixed_as (decode_whole w).kind.profile q number k t l) w refl (given (Err BadTable) l) v a m
    (subst (λ (x : Profile). Gives (prefixed_as x q number k (decode (area_of w)) l) a m) e h)
