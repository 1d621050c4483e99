-- The start of the world of lent bytes is what the calls make: a new table, and the nodes added one after the other. Assumes nothing but that the fresh table
-- obeys.
use Prim.Native.Nat.{ℕ, ◌<◌}
use mathlib.Core.Bool.{false, true}
use mathlib.Core.List.{List, [], ◌++◌, ◌∷◌, append_assoc, append-nil}
use mathlib.Core.Path.{◌∙◌, ◌≡◌, ap, refl, subst, sym}
use native.Mathlib.Omega.{arith}
use lib.Dec.{eqb, ltb}
use lib.ListN.{length, length-append}
use borrow.Author.Tests.{le-ltb, lt-ltb, ne_eqb}
use Rattle.fields.proofs.Choice.{in_right}
use Rattle.fields.specs.Choice.{here}
use Rattle.rules.specs.Given.{Given}
use Rattle.rules.specs.Sizes.{max_nodes, numbers}
use Rattle.rules.specs.Node.{fresh}
use Rattle.rules.specs.Table.{Entry, Table, add_node, among, numbers_of, obeys}
use Rattle.rules.specs.Local.{add}
use Rattle.rules.specs.Memory.{forget}
use Rattle.rules.specs.Whole.{encode_whole}
use Rattle.rules.specs.Lent.{add_whole, forget_on, lent_new}
use Rattle.rules.specs.Profile.{Kind, profile_obeys}
use Rattle.std.specs.Prelude.{Err, Ok, Result}
use Rattle.rules.specs.declared.Refusal.{Refusal}
use Rattle.rules.specs.declared.Refusal.TheVariants.{BadTable}
use Rattle.rules.proofs.Calls.{add-keeps, none-obeys}
use Rattle.rules.proofs.Formed.{add-formed, empty-formed}
use Rattle.rules.proofs.Obeys.{Ascending, number_in, table-facts}
use Rattle.demand3.specs.World.{fresh_table}
use Rattle.demand3_bytes.specs.LentWorld.{of_kind, lent_adds, lent_start}
use Rattle.demand3_bytes.proofs.LentWorld.{whole-encoded}

-- ---- a node whose number is above all others comes last

abbrev made : ℕ → Entry
made i = record { number = i; node = fresh }

last-added : (i : ℕ) (t rest : Table) → Ascending (numbers_of (t ++ (made i ∷ rest))) → (add_node i t ≡ t ++ (made i ∷ [])) × (among i (numbers_of t) ≡ false)
unfolding add_node among numbers_of Ascending
last-added i [] rest s = (refl, refl)
last-added i (a ∷ t) rest s =
    let h : a.number < i = s.0 i (number_in (in_right t {ys = made i ∷ rest} (here refl))) in
    let ih = last-added i t rest s.1 in
    let p : eqb i a.number ≡ false = ne_eqb i a.number (λ e. omega arith) in
    let q : ltb i a.number ≡ false = le-ltb i a.number (omega arith) in
    (rw (p, q, ih.0), rw (p, ih.1))

-- ---- one after the other

module _ (i : ℕ) (t rest : Table) (ok : obeys (t ++ (made i ∷ rest)) ≡ true) where
  few : length t < max_nodes
  few =
      let a = (table-facts _ ok).few in
      let b = length-append t (made i ∷ rest) in
      omega arith

  number_fits : i < numbers
  number_fits = ((table-facts _ ok).each (made i) (in_right t (here refl))).number_fits

  add-last : (add i t).table ≡ t ++ (made i ∷ [])
  unfolding add
  add-last =
      let x = last-added i t rest (table-facts _ ok).ascending in
      rw (x.1, lt-ltb (length t) max_nodes few, x.0)

-- where nothing is remembered, nothing is forgotten
forgets : (m : Kind) (i : ℕ) (t : Table) → encode_whole (add_whole i (record { kind = m; memory = []; table = t })).lent ≡ of_kind m (add i t).table
unfolding add_whole forget
forgets m i t = go (add i t).answer
  where
    go : (a : (Result (Unit {0}) Refusal)) → encode_whole (record { kind = m; memory = forget_on a i []; table = (add i t).table }) ≡ of_kind m (add i t).table
    go (Ok _) = refl
    go (Err r) = refl

adds : (m : Kind) (is : List ℕ) (t : Table) → obeys t ≡ true → profile_obeys m.profile t ≡ true → obeys (t ++ fresh_table is) ≡ true → lent_adds is (of_kind m t) ≡ of_kind m (t ++ fresh_table is)
unfolding lent_adds fresh_table
adds m [] t o f ok = ap (of_kind m) (sym (append-nil t))
adds m (i ∷ is) t o f ok =
    let e = add-last i t (fresh_table is) ok in
    let u = append_assoc t (made i ∷ []) (fresh_table is) in
    ap (λ (x : Given (Result (Unit {0}) Refusal) (List ℕ)). lent_adds is x.lent) (whole-encoded m t o f (Err BadTable) (add_whole i))
    ∙ ap (lent_adds is) (forgets m i t)
    ∙ ap (λ (x : Table). lent_adds is (of_kind m x)) e
    ∙ adds m is (t ++ (made i ∷ [])) (subst (λ (x : Table). obeys x ≡ true) e (add-keeps i t (number_fits i t (fresh_table is) ok) o))
    (subst (λ (x : Table). profile_obeys m.profile x ≡ true) e (add-formed m.profile i t f)) (ap obeys u ∙ ok)
    ∙ ap (of_kind m) u

module _ (is : List ℕ) (ok : obeys (fresh_table is) ≡ true) where
  -- both tables at the start
  pub start-made : (p f : Kind) → ((lent_start p f is).publisher ≡ lent_adds is (lent_new p)) × ((lent_start p f is).follower ≡ lent_adds is (lent_new f))
  unfolding lent_start lent_new
  start-made p f = (sym (adds p is [] none-obeys (empty-formed p.profile) ok), sym (adds f is [] none-obeys (empty-formed f.profile) ok))
