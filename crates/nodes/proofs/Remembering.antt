-- A node that comes or goes, with the memory behind the area: what the area came back as, and then the tail. Assumes nothing.
use Prim.Native.Nat.{ℕ, ◌-◌}
use mathlib.Core.Path.{◌≡◌, refl, ap, sym, subst, ◌∙◌}
use mathlib.Core.Bool.{Bool, true, false}
use mathlib.Core.List.{List, ◌++◌}
use mathlib.Core.Option.{Option, none, some}
use native.Mathlib.Omega.{arith}
use lib.ListN.{length, take, drop}
use Rattle.fields.specs.Choice.{pick}
use Rattle.fields.specs.Parts.{put}
use Rattle.fields.proofs.Choice.{pick_true}
use Rattle.fields.proofs.Lent.{seen}
use Rattle.rules.specs.Given.{Gives}
use Rattle.rules.specs.Node.{Node}
use Rattle.rules.specs.Table.{Table, among, drop_node, node_of, numbers_of}
use Rattle.rules.specs.Local.{Outcome, add, gives, remove_node}
use Rattle.rules.specs.Memory.{Memory, forget, heartbeat_of, remember}
use Rattle.rules.specs.Layout.{table_width, decode, encode}
use Rattle.rules.specs.Whole.{Whole, area_of, decode_memory, decode_tail, decode_whole, encode_tail, encode_whole, tail_of, tail_width, valid_whole, whole_width, with_memory, with_table}
use Rattle.rules.specs.Lent.{add_whole, forget_on, lent_removed, remember_on, remembered_as, remove_whole, stored}
use Rattle.std.specs.Prelude.{Option as Optional}
use Rattle.std.specs.Prelude.{Err, Result}
use Rattle.rules.specs.Results.{done}
use Rattle.rules.specs.declared.Heartbeat.{Heartbeat}
use Rattle.rules.specs.Profile.{Kind}
use Rattle.rules.specs.declared.Refusal.{Refusal}
use Rattle.rules.specs.declared.Refusal.TheVariants.{BadTable, NoNode}
use Rattle.rules.proofs.Memories.{OkMemory, add-whole-refused, remove-whole-refused, whole-memory}
use Rattle.rules.proofs.Obeys.{among_in}
use Rattle.rules.proofs.Refusing.{add-refused, remove-node-refused}
use Rattle.rules.proofs.Tables.{node-there}
use Rattle.table.specs.Fits.{LaidTail}
use Rattle.table.proofs.Memories.{laid-tail, tail-laid}
use Rattle.table.proofs.Wholes.{length-tail, length_whole, tail-memory, tail-kind, tail-put, whole-obeys, whole-tail}
use Rattle.table_check.proofs.Entry.{area-back}
use Rattle.nodes.specs.Coming.{beat_of, stored_whole}

-- the tail as it is lent
abbrev pub lent_tail : List ℕ → List ℕ
lent_tail l = take (whole_width - table_width) (drop table_width l)

-- one that comes back is as long
pub lent-long : (ys : List ℕ) (m : Kind) (mem : Memory) → ys ≡ encode_tail m mem → length ys ≡ tail_width
lent-long ys m mem e = ap length e ∙ length-tail m mem

-- ---- the tail behind an area that came back

module _ (l : List ℕ) (v : valid_whole l ≡ true) (t : Table) (s : List ℕ) (e : s ≡ encode t) where
  abbrev w : Whole
  w = decode_whole l

  abbrev came : List ℕ
  came = s ++ drop table_width l

  came_is : came ≡ encode_whole (with_table t w)
  came_is = area-back l v t s e

  known : OkMemory (numbers_of w.table) w.memory
  known = whole-memory w (whole-obeys l v)

  pub came-long : length came ≡ whole_width
  came-long = ap length came_is ∙ length_whole (with_table t w)

  lent_is : lent_tail came ≡ encode_tail w.kind w.memory
  lent_is = seen table_width tail_width came ∙ ap tail_of came_is ∙ whole-tail (with_table t w)

  pub came-laid : LaidTail (lent_tail came)
  came-laid = subst LaidTail (sym lent_is) (laid-tail w.kind w.memory known.few known.each)

  -- another memory in it
  pub tail-back : (f : Memory → Memory) (ys : List ℕ) → ys ≡ encode_tail (decode_tail (lent_tail came)) (f (decode_memory (lent_tail came)))
      → (r : List ℕ) → r ≡ put table_width ys came → r ≡ encode_whole (with_memory (f w.memory) (with_table t w))
  tail-back f ys q r p =
      let kind_is : decode_tail (lent_tail came) ≡ w.kind = ap decode_tail lent_is ∙ tail-kind w.kind w.memory in
      let memory : decode_memory (lent_tail came) ≡ w.memory = ap decode_memory lent_is ∙ tail-memory w.kind w.memory known.few known.each in
      let is : ys ≡ encode_tail w.kind (f w.memory) = q ∙ (λ z. encode_tail (kind_is z) (f (memory z))) in
      p ∙ (λ z. put table_width (is z) (came_is z)) ∙ tail-put (f w.memory) (with_table t w)

-- ---- adding

module _ (l : List ℕ) (v : valid_whole l ≡ true) (n : ℕ) (a : (Result (Unit {0}) Refusal)) (s : List ℕ) (h : Gives (stored (add n (decode (area_of l)))) a s) where
  abbrev added : Outcome (Result (Unit {0}) Refusal)
  added = add n (decode_whole l).table

  pub add_done : a ≡ done → (r : List ℕ) → r ≡ encode_whole (with_memory (forget n (decode_whole l).memory) (with_table added.table (decode_whole l)))
      → Gives (stored_whole (add_whole n (decode_whole l))) done r
  unfolding add_whole
  add_done q r p =
      let d : added.answer ≡ done = sym h.0 ∙ q in (
        sym d,
        p ∙ ap (λ (x : (Result (Unit {0}) Refusal)). encode_whole (record { kind = (decode_whole l).kind; memory = forget_on x n (decode_whole l).memory; table = added.table })) (sym d),
      )

  pub add-not : (why : Refusal) → a ≡ Err why → Gives (stored_whole (add_whole n (decode_whole l))) (Err why) (s ++ drop table_width l)
  unfolding add_whole
  add-not why q =
      let d : added.answer ≡ Err why = sym h.0 ∙ q in (
        sym d,
        area-back l v added.table s h.1
            ∙ ap (λ (x : Table). encode_whole (with_table x (decode_whole l))) (add-refused n (decode_whole l).table why d)
            ∙ ap encode_whole (sym (add-whole-refused n (decode_whole l) why d)),
      )

-- ---- removing

-- one that goes was held
remembers : (n : ℕ) (t : Table) (m : Memory) → (remove_node n t).answer ≡ done → remember n (beat_of (node_of n t)) m ≡ remember_on (node_of n t) n m
unfolding remove_node
remembers n t m d = go (among n (numbers_of t)) refl d
  where
    here : (o : Option Node) → ((f : Node) × (o ≡ some f)) → remember n (beat_of o) m ≡ remember_on o n m
    here (some x) f = refl
    here none f = let e = f.1 in let z : ◌≡◌ {A = ℕ} 0 1 = cc in absurd (omega arith)

    go : (b : Bool) → among n (numbers_of t) ≡ b → (pick b (gives done (drop_node n t)) (gives (Err NoNode) t)).answer ≡ done
        → remember n (beat_of (node_of n t)) m ≡ remember_on (node_of n t) n m
    go true q e = here (node_of n t) (node-there n t (among_in n (numbers_of t) q))
    go false q e = let z : ◌≡◌ {A = ℕ} 0 1 = cc in absurd (omega arith)

module _ (l : List ℕ) (v : valid_whole l ≡ true) (n : ℕ) (a : (Result (Unit {0}) Refusal)) (s : List ℕ) (h : Gives (stored (remove_node n (decode (area_of l)))) a s) where
  abbrev without : Outcome (Result (Unit {0}) Refusal)
  without = remove_node n (decode_whole l).table

  pub remove-done : a ≡ done → (b : Heartbeat) → b ≡ beat_of (node_of n (decode (area_of l)))
      → (r : List ℕ) → r ≡ encode_whole (with_memory (remember n b (decode_whole l).memory) (with_table without.table (decode_whole l)))
      → Gives (stored_whole (remove_whole n (decode_whole l))) done r
  unfolding remove_whole
  remove-done q b e r p =
      let d : without.answer ≡ done = sym h.0 ∙ q in
      let m : remember n b (decode_whole l).memory ≡ remember_on (node_of n (decode_whole l).table) n (decode_whole l).memory =
      ap (λ (x : Heartbeat). remember n x (decode_whole l).memory) e ∙ remembers n (decode_whole l).table (decode_whole l).memory d in
      (sym d, p ∙ ap (λ (x : Memory). encode_whole (with_memory x (with_table without.table (decode_whole l)))) m)

  pub remove-not : (why : Refusal) → a ≡ Err why → Gives (stored_whole (remove_whole n (decode_whole l))) (Err why) (s ++ drop table_width l)
  unfolding remove_whole
  remove-not why q =
      let d : without.answer ≡ Err why = sym h.0 ∙ q in (
        sym d,
        area-back l v without.table s h.1
            ∙ ap (λ (x : Table). encode_whole (with_table x (decode_whole l))) (remove-node-refused n (decode_whole l).table why d)
            ∙ ap encode_whole (sym (remove-whole-refused n (decode_whole l) why d)),
      )

-- ---- asking

pub asked-laid : (l : List ℕ) → valid_whole l ≡ true → LaidTail (lent_tail l)
asked-laid l v = subst LaidTail (sym (seen table_width tail_width l)) (tail-laid l v)

module _ (l : List ℕ) (n : ℕ) where
  abbrev answer : (Result (Optional Heartbeat) Refusal)
  answer = remembered_as (heartbeat_of n (decode_whole l).memory)

  pub asked : remembered_as (heartbeat_of n (decode_memory (lent_tail l))) ≡ answer
  asked = ap (λ (x : List ℕ). remembered_as (heartbeat_of n (decode_memory x))) (seen table_width tail_width l)

  pub told : valid_whole l ≡ true → answer ≡ lent_removed n l
  unfolding lent_removed
  told v = sym (pick_true (valid_whole l) answer (Err BadTable) v)

  pub not-told : valid_whole l ≡ false → Err BadTable ≡ lent_removed n l
  unfolding lent_removed
  not-told v = sym (ap (λ (b : Bool). pick b answer (Err BadTable)) v)
