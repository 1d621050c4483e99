-- `over_list::next_turn` meets its contract: by which of the two keys comes next. Assumes nothing.
use Prim.Native.Nat.{ℕ, ◌+◌, ◌-◌, ◌≤◌, ◌<◌}
use mathlib.Core.Path.{◌≡◌, refl, ap, sym, ◌∙◌}
use mathlib.Core.Bool.{Bool, true, false, not, true≢false, false≢true}
use native.Mathlib.Omega.{arith}
use lib.Dec.{eqb}
use borrow.Author.Tests.{eqb-true, eqb-false}
use Rattle.fields.specs.Choice.{pick}
use Rattle.std.specs.declared.cmp.Ordering.{Ordering}
use Rattle.std.specs.declared.cmp.Ordering.TheVariants.{Less, Equal, Greater}
use Rattle.rules.specs.Node.{Rec, hidden}
use Rattle.table.specs.Places.{rec_at}
use Rattle.over_list.specs.Merged.{over_place}
use Rattle.over_list.specs.Turns.{next_key, turn_as, both_turn, turn_of}
use Rattle.over_list.specs.declared.Turn.{Turn}
use Rattle.over_list.proofs.next_turn.Goals as goal

-- which side is not at its end
module _ (a a_end b b_end : ℕ) (x : Ordering) (p : a ≤ a_end) (q : b ≤ b_end) where
  abbrev next : Ordering
  next = pick (eqb a a_end) Greater (pick (eqb b b_end) Less x)

  not_more : next ≡ Less → a < a_end
  not_more e = go (eqb a a_end) refl e
    where
      go : (s : Bool) → eqb a a_end ≡ s → pick s Greater (pick (eqb b b_end) Less x) ≡ Less → a < a_end
      go true u e = let z : ◌≡◌ {A = ℕ} 0 1 = cc in absurd (omega arith)
      go false u e = let d : a ≡ a_end → ⊥ = eqb-false a a_end u in omega arith

  both : next ≡ Equal → (a < a_end) × (b < b_end)
  both e = go (eqb a a_end) refl (eqb b b_end) refl e
    where
      go : (s : Bool) → eqb a a_end ≡ s → (t : Bool) → eqb b b_end ≡ t → pick s Greater (pick t Less x) ≡ Equal → (a < a_end) × (b < b_end)
      go true u t w e = let z : ◌≡◌ {A = ℕ} 0 1 = cc in absurd (omega arith)
      go false u true w e = let z : ◌≡◌ {A = ℕ} 0 1 = cc in absurd (omega arith)
      go false u false w e =
          let d : a ≡ a_end → ⊥ = eqb-false a a_end u in
          let f : b ≡ b_end → ⊥ = eqb-false b b_end w in
          (omega arith, omega arith)

  not-less : a + b < a_end + b_end → next ≡ Greater → b < b_end
  not-less h e = go (eqb a a_end) refl (eqb b b_end) refl e
    where
      go : (s : Bool) → eqb a a_end ≡ s → (t : Bool) → eqb b b_end ≡ t → pick s Greater (pick t Less x) ≡ Greater → b < b_end
      go true u t w e = let d : a ≡ a_end = eqb-true a a_end u in omega arith
      go false u true w e = let z : ◌≡◌ {A = ℕ} 0 1 = cc in absurd (omega arith)
      go false u false w e = let f : b ≡ b_end → ⊥ = eqb-false b b_end w in omega arith

not_hidden : (t : Bool) → not t ≡ true → t ≡ false
not_hidden true e = absurd (false≢true e)
not_hidden false e = refl

is_hidden : (t : Bool) → not t ≡ false → t ≡ true
is_hidden true e = refl
is_hidden false e = absurd (true≢false e)

module _ (o x : Ordering) (a b : ℕ) (r s : Rec) (e : o ≡ x) where
  as-turn : (t : Turn) → t ≡ turn_of x a b r s → t ≡ turn_of o a b r s
  as-turn t q = q ∙ sym (ap (λ (y : Ordering). turn_of y a b r s) e)

pub shown_once-requires : goal.shown_once-requires
shown_once-requires c =
    let answered : (x : Ordering) → c.next_key.result ≡ x → let t = c.args in next_key t.a t.a_end t.b t.b_end t.overrides.now t.node.now ≡ x = λ (x : Ordering) (e : c.next_key.result ≡ x). sym c.next_key.ensures ∙ e in
    let over-in : c.next_key.result ≡ Less → let t = c.args in t.a < t.a_end = λ (e : c.next_key.result ≡ Less). let t = c.args in not_more t.a t.a_end t.b t.b_end _ c.requires.2 c.requires.4 (answered Less e) in
    (c.requires.0, omega (arith, over-in c.in-Less.is, c.requires.3))

pub is_shown-requires : goal.is_shown-requires
is_shown-requires c =
    let answered : (x : Ordering) → c.next_key.result ≡ x → let t = c.args in next_key t.a t.a_end t.b t.b_end t.overrides.now t.node.now ≡ x = λ (x : Ordering) (e : c.next_key.result ≡ x). sym c.next_key.ensures ∙ e in
    let both-in : c.next_key.result ≡ Equal → let t = c.args in (t.a < t.a_end) × (t.b < t.b_end) = λ (e : c.next_key.result ≡ Equal). let t = c.args in both t.a t.a_end t.b t.b_end _ c.requires.2 c.requires.4 (answered Equal e) in
    (c.requires.0, omega (arith, (both-in c.in-Equal.is).0, c.requires.3))

pub returns-then-is_shown : goal.returns-then-is_shown
returns-then-is_shown c =
    let answered : (x : Ordering) → c.next_key.result ≡ x → let t = c.args in next_key t.a t.a_end t.b t.b_end t.overrides.now t.node.now ≡ x = λ (x : Ordering) (e : c.next_key.result ≡ x). sym c.next_key.ensures ∙ e in
    let t = c.args in
    as-turn _ Equal t.a (t.b - t.base) (rec_at t.a t.overrides.now) (rec_at t.b t.node.now) (answered Equal c.in-Equal.is) _
    (sym (ap (λ (h : Bool). both_turn h t.a (t.b - t.base) (rec_at t.b t.node.now)) (not_hidden (hidden (rec_at t.a t.overrides.now).kv.status) (sym c.is_shown.ensures ∙ c.if-is_shown.true))))

pub overflow_sub-result : goal.overflow_sub-result
overflow_sub-result c =
    c.requires.7

pub shown_once-requires-in-Equal : goal.shown_once-requires-in-Equal
shown_once-requires-in-Equal c =
    let answered : (x : Ordering) → c.next_key.result ≡ x → let t = c.args in next_key t.a t.a_end t.b t.b_end t.overrides.now t.node.now ≡ x = λ (x : Ordering) (e : c.next_key.result ≡ x). sym c.next_key.ensures ∙ e in
    let both-in : c.next_key.result ≡ Equal → let t = c.args in (t.a < t.a_end) × (t.b < t.b_end) = λ (e : c.next_key.result ≡ Equal). let t = c.args in both t.a t.a_end t.b t.b_end _ c.requires.2 c.requires.4 (answered Equal e) in
    (c.requires.1, omega (arith, (both-in c.in-Equal.is).1, c.requires.5))

pub overflow_sub-result-in-Greater : goal.overflow_sub-result-in-Greater
overflow_sub-result-in-Greater c =
    c.requires.7

pub shown_once-requires-in-Greater : goal.shown_once-requires-in-Greater
shown_once-requires-in-Greater c =
    let answered : (x : Ordering) → c.next_key.result ≡ x → let t = c.args in next_key t.a t.a_end t.b t.b_end t.overrides.now t.node.now ≡ x = λ (x : Ordering) (e : c.next_key.result ≡ x). sym c.next_key.ensures ∙ e in
    let node_in : c.next_key.result ≡ Greater → let t = c.args in t.b < t.b_end = λ (e : c.next_key.result ≡ Greater). let t = c.args in not-less t.a t.a_end t.b t.b_end _ c.requires.2 c.requires.4 c.requires.6 (answered Greater e) in
    (c.requires.1, omega (arith, node_in c.in-Greater.is, c.requires.5))

pub returns-in-Less : goal.returns-in-Less
returns-in-Less c =
    let answered : (x : Ordering) → c.next_key.result ≡ x → let t = c.args in next_key t.a t.a_end t.b t.b_end t.overrides.now t.node.now ≡ x = λ (x : Ordering) (e : c.next_key.result ≡ x). sym c.next_key.ensures ∙ e in
    let t = c.args in
    as-turn _ Less t.a (t.b - t.base) (rec_at t.a t.overrides.now) (rec_at t.b t.node.now) (answered Less c.in-Less.is) _
    (ap (λ (m : ℕ). turn_as (over_place + t.a) m 1 0) c.shown_once.ensures)

pub returns-else-is_shown : goal.returns-else-is_shown
returns-else-is_shown c =
    let answered : (x : Ordering) → c.next_key.result ≡ x → let t = c.args in next_key t.a t.a_end t.b t.b_end t.overrides.now t.node.now ≡ x = λ (x : Ordering) (e : c.next_key.result ≡ x). sym c.next_key.ensures ∙ e in
    let t = c.args in
    as-turn _ Equal t.a (t.b - t.base) (rec_at t.a t.overrides.now) (rec_at t.b t.node.now) (answered Equal c.in-Equal.is) _
    (ap (λ (m : ℕ). turn_as (t.b - t.base) m 1 1) c.shown_once-in-Equal.ensures
    ∙ sym (ap (λ (h : Bool). both_turn h t.a (t.b - t.base) (rec_at t.b t.node.now)) (is_hidden (hidden (rec_at t.a t.overrides.now).kv.status) (sym c.is_shown.ensures ∙ c.if-is_shown.false))))

pub returns-in-Greater : goal.returns-in-Greater
returns-in-Greater c =
    let answered : (x : Ordering) → c.next_key.result ≡ x → let t = c.args in next_key t.a t.a_end t.b t.b_end t.overrides.now t.node.now ≡ x = λ (x : Ordering) (e : c.next_key.result ≡ x). sym c.next_key.ensures ∙ e in
    let t = c.args in
    as-turn _ Greater t.a (t.b - t.base) (rec_at t.a t.overrides.now) (rec_at t.b t.node.now) (answered Greater c.in-Greater.is) _
    (ap (λ (m : ℕ). turn_as (t.b - t.base) m 0 1) c.shown_once-in-Greater.ensures)
