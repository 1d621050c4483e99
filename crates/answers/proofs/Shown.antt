-- The number of a refusal is not 0, so its values are those of a refusal. Assumes nothing.
use Prim.Native.Nat.{ℕ, ◌≤◌, ◌<◌}
use mathlib.Core.Path.{◌≡◌, refl, ap, ap₂, sym, ◌∙◌}
use mathlib.Core.Bool.{Bool, true, false}
use mathlib.Core.List.{List, [], ◌∷◌}
use lib.Dec.{eqb, leb}
use lib.ListN.{get_or}
use borrow.Author.Tests.{eqb-true, le-leb, lt-leb}
use Rattle.fields.specs.Choice.{pick}
use Rattle.fields.proofs.Choice.{pick_true, pick-false}
use Rattle.rules.specs.Sizes.{max_nodes}
use Rattle.rules.specs.Answers.{number_of, need_of, read_told, applied_told, refused}
use Rattle.rules.specs.declared.Refusal.{Refusal}
use Rattle.rules.specs.declared.Refusal.TheVariants.{NoPlace}
use Rattle.std.specs.Prelude.{Err, Ok}
use Rattle.delta_make.specs.Making.{refused_at}
use Rattle.rules.proofs.Told.{not-refused}
use Rattle.digest_read.specs.Held.{unused}
use Rattle.digest_read.specs.Told.{place_values, answer_told}
use Rattle.digest_read.specs.declared.NodeDigest.{NodeDigest as Place}
use Rattle.exchange.specs.Exchanging.{step_code, exchanged_told}
use Rattle.exchange_ask.specs.declared.Step.{Step}
use Rattle.listing_make.specs.Make.{made_told}
use Rattle.overrides.specs.Both.{which_code}
use Rattle.overrides.specs.declared.Which.{Which}
use Rattle.over_find.specs.Told.{found_over_told}
use Rattle.over_list.specs.Told.{listed_over_told}
use Rattle.answers.specs.Shown.{value_at, some_of, found_over_shown, listed_over_shown, digest_shown, entry_at, entry_shown, place_told, delta_shown, applied_shown, exchanged_shown, made_shown}
use Rattle.answers.specs.declared.KevFoundOver.{KevFoundOver}
use Rattle.answers.specs.declared.KevListedOver.{KevListedOver}
use Rattle.answers.specs.declared.KevDigest.{KevDigest}
use Rattle.answers.specs.declared.KevDelta.{KevDelta}
use Rattle.answers.specs.declared.KevApplied.{KevApplied}
use Rattle.answers.specs.declared.KevExchanged.{KevExchanged}
use Rattle.answers.specs.declared.KevMade.{KevMade}

refused-not-zero : (r : Refusal) → eqb (number_of r) 0 ≡ false
refused-not-zero r = go (eqb (number_of r) 0) refl
  where
    go : (b : Bool) → eqb (number_of r) 0 ≡ b → eqb (number_of r) 0 ≡ false
    go true p = not-refused r (sym (eqb-true (number_of r) 0 p))
    go false p = p

module _ (r : Refusal) (vs : List ℕ) where
  none-accepted : pick (eqb (number_of r) 0) vs [] ≡ []
  none-accepted = ap (λ (b : Bool). pick b vs []) (refused-not-zero r)

  all-refused : pick (eqb (number_of r) 0) [] vs ≡ vs
  all-refused = ap (λ (b : Bool). pick b [] vs) (refused-not-zero r)

-- ---- refusals that have values

abbrev no_delta : (number at need : ℕ) → KevDelta
no_delta n at need = record { number = n; ops = 0; nodes = 0; at = at; need = need }

pub delta-refused : (r : Refusal) (at : ℕ) → no_delta (number_of r) at (need_of r) ≡ delta_shown (read_told (Err (record { why = r; at = at })))
unfolding read_told
delta-refused r at =
    ap₂ (λ (a b : List ℕ). record { number = number_of r; ops = value_at 0 a; nodes = value_at 1 a; at = value_at 0 b; need = need_of r })
    (sym (none-accepted r (at ∷ []))) (sym (all-refused r (at ∷ [])))

pub found-over-refused : (w : Which) (r : Refusal)
    → ◌≡◌ {A = KevFoundOver} (record { number = number_of r; found = 0; over = 0; start = 0; len = 0; which = which_code w }) (found_over_shown (found_over_told (Err (record { which = w; why = r }))))
unfolding found_over_told
found-over-refused w r =
    ap₂ (λ (a b : List ℕ). record { number = number_of r; found = some_of a; over = value_at 0 a; start = value_at 1 a; len = value_at 2 a; which = value_at 0 b })
    (sym (none-accepted r (which_code w ∷ []))) (sym (all-refused r (which_code w ∷ [])))

pub listed-over-refused : (w : Which) (r : Refusal) → ◌≡◌ {A = KevListedOver} (record { number = number_of r; count = 0; which = which_code w }) (listed_over_shown (listed_over_told (Err (record { which = w; why = r }))))
unfolding listed_over_told
listed-over-refused w r =
    ap₂ (λ (a b : List ℕ). record { number = number_of r; count = value_at 0 a; which = value_at 0 b }) (sym (none-accepted r (which_code w ∷ []))) (sym (all-refused r (which_code w ∷ [])))

abbrev none_applied : (number at need : ℕ) → KevApplied
none_applied n at need = record { number = n; nodes = 0; at = at; need = need }

pub applied-refused : (r : Refusal) (at : ℕ) → none_applied (number_of r) at (need_of r) ≡ applied_shown (applied_told (Err (record { why = r; at = at })))
unfolding applied_told
applied-refused r at =
    ap₂ (λ (a b : List ℕ). record { number = number_of r; nodes = value_at 0 a; at = value_at 0 b; need = need_of r })
    (sym (none-accepted r (at ∷ []))) (sym (all-refused r (at ∷ [])))

abbrev no_exchange : (number step : ℕ) → KevExchanged
no_exchange n step = record { number = n; ops = 0; bytes = 0; nodes = 0; step = step }

pub exchanged-refused : (s : Step) (r : Refusal) → no_exchange (number_of r) (step_code s) ≡ exchanged_shown (exchanged_told (Err (record { step = s; why = r })))
unfolding exchanged_told
exchanged-refused s r =
    ap₂ (λ (a b : List ℕ). record { number = number_of r; ops = value_at 0 a; bytes = value_at 1 a; nodes = value_at 2 a; step = value_at 0 b })
    (sym (none-accepted r (step_code s ∷ []))) (sym (all-refused r (step_code s ∷ [])))

abbrev no_digest : (number need : ℕ) → KevDigest
no_digest n need = record { number = n; count = 0; rest = 0; need = need }

pub digest-refused : (r : Refusal) (ps : List Place) → no_digest (number_of r) (need_of r) ≡ digest_shown (answer_told (Err r) ps)
digest-refused r ps =
    ap (λ (a : List ℕ). record { number = number_of r; count = value_at 0 a; rest = value_at 1 a; need = need_of r }) (sym (none-accepted r (place_values ps)))

-- ---- an entry of a digest

module _ (i count rest : ℕ) (ps : List Place) where
  pub past-places : max_nodes ≤ i → entry_shown (refused NoPlace []) ≡ entry_shown (entry_at i (Ok (record { count = count; rest = rest })) ps)
  past-places h = ap entry_shown (sym (pick_true (leb max_nodes i) (refused NoPlace []) _ (le-leb max_nodes i h)))

  within : i < max_nodes → pick (leb count i) (refused NoPlace []) (place_told (get_or ps i unused)) ≡ entry_at i (Ok (record { count = count; rest = rest })) ps
  within h = sym (pick-false (leb max_nodes i) (refused NoPlace []) _ (lt-leb max_nodes i h))

  pub past-entries : i < max_nodes → count ≤ i → entry_shown (refused NoPlace []) ≡ entry_shown (entry_at i (Ok (record { count = count; rest = rest })) ps)
  past-entries h k = ap entry_shown (sym (pick_true (leb count i) (refused NoPlace []) _ (le-leb count i k)) ∙ within h)

  pub entry-there : i < max_nodes → i < count → entry_shown (place_told (get_or ps i unused)) ≡ entry_shown (entry_at i (Ok (record { count = count; rest = rest })) ps)
  entry-there h k = ap entry_shown (sym (pick-false (leb count i) (refused NoPlace []) _ (lt-leb count i k)) ∙ within h)

-- ---- a delta made from its listing

abbrev none_made : (number at need : ℕ) → KevMade
none_made n at need = record { number = n; bytes = 0; line = 0; at = at; need = need }

pub made-refused : (r : Refusal) (at : ℕ) → none_made (number_of r) at (need_of r) ≡ made_shown (made_told (refused_at r at))
unfolding made_told
made-refused r at =
    ap₂ (λ (a b : List ℕ). record { number = number_of r; bytes = value_at 0 a; line = value_at 0 b; at = value_at 1 b; need = need_of r })
    (sym (none-accepted r (0 ∷ at ∷ []))) (sym (all-refused r (0 ∷ at ∷ [])))
