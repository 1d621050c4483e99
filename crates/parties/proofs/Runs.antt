-- Ticket 9's two runs. A run says to a party what its own calls and the common ones alone say on what the party has; so two runs that agree on these say the
-- same, and leave the same of it. Assumes nothing.
use Prim.Native.Nat.{ℕ}
use mathlib.Core.Bool.{Bool, true, false, true≢false}
use mathlib.Core.List.{List, [], ◌∷◌}
use mathlib.Core.Path.{◌≡◌, refl, ap, ap₂, sym, ◌∙◌, subst}
use Rattle.fields.specs.Choice.{pick, keep}
use Rattle.rules.specs.Answers.{answer_told, offered_told}
use Rattle.rules.specs.Table.{Table}
use Rattle.rules.specs.Party.{own}
use Rattle.rules.specs.Memory.{Memory}
use Rattle.rules.specs.Profile.{Kind, profile_obeys}
use Rattle.rules.specs.Whole.{Whole, with_table, obeys_whole}
use Rattle.rules.specs.Local.{Outcome, call_as, write_as, gc}
use Rattle.rules.specs.Lent.{add_whole, remove_whole, forget_on}
use Rattle.rules.specs.Node.{Call}
use Rattle.rules.specs.declared.Heartbeat.{Heartbeat}
use Rattle.rules.specs.declared.Party.{Party}
use Rattle.rules.specs.declared.Profile.{Profile}
use Rattle.rules.specs.declared.Profile.TheVariants.{Shared}
use Rattle.rules.specs.declared.Refusal.TheVariants.{Exhausted}
use Rattle.std.specs.Prelude.{Err, Result}
use Rattle.rules.specs.declared.Refusal.{Refusal}
use Rattle.rules.proofs.Memories.{whole-table, whole-profile}
use Rattle.parties.specs.TwoRuns.{Event, Writing, Calling, Asking, Removing, Adding, Dropping, Remembering, Offering, Beating, happen, happen_as, after, Said, says, said, said_as, concerns, changes, stripped, heard, Unspent, NoSix, view, Telling, Blind, heard_alone, after_alone}
use Rattle.parties.proofs.Apart.{same-is}
use Rattle.parties.proofs.Tables.{view_table, table_is, table-twice, remove-view, obeys-ordered}
use Rattle.parties.proofs.Steps.{Alike}
use Rattle.parties.proofs.Calls.{Tidy, call-own, write-own, call_passes, write-passes, call-tidy, write-tidy}
use Rattle.parties.proofs.Common.{add-even, drop-even, remember-even, offer-even, beat-even, adding-tidy, dropping-tidy, removing-tidy, offering-tidy, beating-tidy}

-- a shared table whose keys stand in order, and which obeys what the profile adds
pub record Sound (w : Whole) : Type 0 where
  pub shared : w.kind.profile ≡ Shared
  pub tidy : Tidy w.table

pub obeys-sound : (w : Whole) → w.kind.profile ≡ Shared → obeys_whole w ≡ true → Sound w
obeys-sound w s o =
    record {
      shared = s;
      tidy = record { ordered = obeys-ordered w.table (whole-table w o); formed = subst (λ (f : Profile). profile_obeys f w.table ≡ true) s (whole-profile w o) };
    }

-- ---- one event

-- Exhausted is told as 6
six : (a : (Result (Unit {0}) Refusal)) → ((answer_told a).number ≡ 6 → ⊥) → a ≡ Err Exhausted → ⊥
unfolding answer_told
six a h e = h (ap (λ (x : (Result (Unit {0}) Refusal)). (answer_told x).number) e)

-- what a party has, in one pass
abbrev viewed : (p : Party) (w : Whole) → Whole
viewed p w = with_table (view_table (own p) w.table) w

view-viewed : (p : Party) → viewed p ≡ view p
view-viewed p = λ i w. with_table (sym (table_is (own p) w.table) i) w

-- ---- what is left

module _ {Ask : Type 0} (p : Party) (w : Whole) where
  -- a call of another leaves all that the party has
  shared-pass : (e : Event Ask) → Tidy w.table → concerns p e ≡ false → viewed p (happen_as Shared e w) ≡ viewed p w
  shared-pass (Writing q wanted v now i k) s c = ap (λ (t : Table). with_table t w) (write-passes p w.table s q c wanted v now i k)
  shared-pass (Calling q i k call) s c = ap (λ (t : Table). with_table t w) (call_passes p w.table s q c call i k)
  shared-pass (Asking q x) s c = refl
  shared-pass (Removing now grace) s c = absurd (true≢false c)
  shared-pass (Adding i) s c = absurd (true≢false c)
  shared-pass (Dropping i) s c = absurd (true≢false c)
  shared-pass (Remembering i) s c = absurd (true≢false c)
  shared-pass (Offering i b) s c = absurd (true≢false c)
  shared-pass (Beating i) s c = absurd (true≢false c)

  pub pass : Sound w → (e : Event Ask) → concerns p e ≡ false → view p (happen e w) ≡ view p w
  pass s e c =
      subst (λ (f : Profile). view p (happen_as f e w) ≡ view p w) (sym s.shared)
      (subst (λ (has : Whole → Whole). has (happen_as Shared e w) ≡ has w) (view-viewed p) (shared-pass e s.tidy c))

module _ {Ask : Type 0} (w : Whole) where
  shared-stays : (e : Event Ask) → Tidy w.table → Tidy (happen_as Shared e w).table
  unfolding gc add_whole remove_whole
  shared-stays (Writing q wanted v now i k) s = write-tidy q w.table s wanted v now i k
  shared-stays (Calling q i k call) s = call-tidy q w.table s call i k
  shared-stays (Asking q x) s = s
  shared-stays (Removing now grace) s = removing-tidy now grace w.table s
  shared-stays (Adding i) s = adding-tidy i w.table s
  shared-stays (Dropping i) s = dropping-tidy i w.table s
  shared-stays (Remembering i) s = s
  shared-stays (Offering i b) s = offering-tidy i b w.table s
  shared-stays (Beating i) s = beating-tidy i w.table s

  kind_stays : (f : Profile) (e : Event Ask) → (happen_as f e w).kind ≡ w.kind
  unfolding add_whole remove_whole
  kind_stays f (Writing q wanted v now i k) = refl
  kind_stays f (Calling q i k call) = refl
  kind_stays f (Asking q x) = refl
  kind_stays f (Removing now grace) = refl
  kind_stays f (Adding i) = refl
  kind_stays f (Dropping i) = refl
  kind_stays f (Remembering i) = refl
  kind_stays f (Offering i b) = refl
  kind_stays f (Beating i) = refl

  pub stays-sound : Sound w → (e : Event Ask) → Sound (happen e w)
  stays-sound s e =
      record {
        shared = ap (λ (k : Kind). k.profile) (kind_stays w.kind.profile e) ∙ s.shared;
        tidy = subst (λ (f : Profile). Tidy (happen_as f e w).table) (sym s.shared) (shared-stays e s.tidy);
      }

-- ---- what is said

module _ {Ask : Type 0} (tells : Telling Ask) (blind : Blind tells) where
  -- What concerns the party says the same of what it has, and leaves the same of that. Of what it has by any account of it, in any profile.
  pub record Step (f : Profile) (has : Whole → Whole) (e : Event Ask) (w : Whole) : Type 0 where
    pub says_so : said_as tells f e (has w) ≡ said_as tells f e w
    pub leaves_so : has (happen_as f e (has w)) ≡ has (happen_as f e w)

  module _ (p : Party) (w : Whole) where
    from-alike : (o v : Outcome (Result (Unit {0}) Refusal)) → Alike (own p) o v
        → (says (answer_told v.answer) [] ≡ says (answer_told o.answer) []) × (viewed p (with_table v.table (viewed p w)) ≡ viewed p (with_table o.table w))
    from-alike o v a = (ap (λ (x : (Result (Unit {0}) Refusal)). says (answer_told x) []) a.answers, ap (λ (t : Table). with_table t w) a.views)

    written : (wanted : ℕ) (v : List ℕ) (now i : ℕ) (k : List ℕ) → Tidy w.table → ((said_as tells Shared (Writing p wanted v now i k) w).told.number ≡ 6 → ⊥) → Step Shared (viewed p) (Writing p wanted v now i k) w
    written wanted v now i k s h =
        let x = from-alike (write_as Shared p wanted v now i k w.table) (write_as Shared p wanted v now i k (view_table (own p) w.table))
        (write-own p w.table s wanted v now i k (six (write_as Shared p wanted v now i k w.table).answer h)) in
        record { says_so = x.0; leaves_so = x.1 }

    called : (i : ℕ) (k : List ℕ) (c : Call) → Tidy w.table → ((said_as tells Shared (Calling p i k c) w).told.number ≡ 6 → ⊥) → Step Shared (viewed p) (Calling p i k c) w
    called i k c s h =
        let x = from-alike (call_as Shared p c i k w.table) (call_as Shared p c i k (view_table (own p) w.table))
        (call-own p w.table s c i k (six (call_as Shared p c i k w.table).answer h)) in
        record { says_so = x.0; leaves_so = x.1 }

    asked : (q : Ask) → Step Shared (viewed p) (Asking p q) w
    asked q = record { says_so = ap (λ (t : Table). tells Shared p q t) (sym (table_is (own p) w.table)) ∙ blind p q w.table; leaves_so = ap (λ (t : Table). with_table t w) (table-twice (own p) w.table) }

    removed : (now grace : ℕ) → Step Shared (viewed p) (Removing now grace) w
    unfolding gc
    removed now grace = record { says_so = refl; leaves_so = ap (λ (t : Table). with_table t w) (sym (remove-view (own p) now grace w.table)) }

    added : (i : ℕ) → Step Shared (viewed p) (Adding i) w
    unfolding add_whole
    added i =
        let x = add-even (own p) i w.table in
        record {
          says_so = ap (λ (a : (Result (Unit {0}) Refusal)). says (answer_told a) []) x.answers;
          leaves_so = ap₂ (λ (a : (Result (Unit {0}) Refusal)) (t : Table). record { kind = w.kind; memory = forget_on a i w.memory; table = t }) x.answers x.views;
        }

    dropped : (i : ℕ) → Step Shared (viewed p) (Dropping i) w
    unfolding remove_whole
    dropped i =
        let x = drop-even (own p) i w.table in
        record {
          says_so = ap (λ (a : (Result (Unit {0}) Refusal)). says (answer_told a) []) x.answers;
          leaves_so = ap₂ (λ (m : Memory) (t : Table). record { kind = w.kind; memory = m; table = t }) (remember-even (own p) i w.table w.memory) x.views;
        }

    remembered : (i : ℕ) → Step Shared (viewed p) (Remembering i) w
    remembered i = record { says_so = refl; leaves_so = ap (λ (t : Table). with_table t w) (table-twice (own p) w.table) }

    offered : (i : ℕ) (h : Heartbeat) → Step Shared (viewed p) (Offering i h) w
    offered i h =
        let x = offer-even (own p) i h w.table in
        record { says_so = ap (λ (a : (Result Bool Refusal)). says (offered_told a) []) x.answers; leaves_so = ap (λ (t : Table). with_table t w) x.views }

    beaten : (i : ℕ) → Step Shared (viewed p) (Beating i) w
    beaten i =
        let x = beat-even (own p) i w.table in
        record { says_so = ap (λ (a : (Result (Unit {0}) Refusal)). says (answer_told a) []) x.answers; leaves_so = ap (λ (t : Table). with_table t w) x.views }

    shared_step : (e : Event Ask) → Tidy w.table → concerns p e ≡ true → (changes e ≡ true → (said_as tells Shared e w).told.number ≡ 6 → ⊥) → Step Shared (viewed p) e w
    shared_step (Writing q wanted v now i k) s c h =
        subst (λ (x : Party). ((said_as tells Shared (Writing x wanted v now i k) w).told.number ≡ 6 → ⊥) → Step Shared (viewed p) (Writing x wanted v now i k) w) (sym (same-is p q c)) (written wanted v now i k s) (h refl)
    shared_step (Calling q i k call) s c h =
        subst (λ (x : Party). ((said_as tells Shared (Calling x i k call) w).told.number ≡ 6 → ⊥) → Step Shared (viewed p) (Calling x i k call) w) (sym (same-is p q c)) (called i k call s) (h refl)
    shared_step (Asking q x) s c h = subst (λ (y : Party). Step Shared (viewed p) (Asking y x) w) (sym (same-is p q c)) (asked x)
    shared_step (Removing now grace) s c h = removed now grace
    shared_step (Adding i) s c h = added i
    shared_step (Dropping i) s c h = dropped i
    shared_step (Remembering i) s c h = remembered i
    shared_step (Offering i b) s c h = offered i b
    shared_step (Beating i) s c h = beaten i

    pub step : Sound w → (e : Event Ask) → concerns p e ≡ true → (changes e ≡ true → (said tells e w).told.number ≡ 6 → ⊥) → Step w.kind.profile (view p) e w
    step s e c h =
        subst (λ (f : Profile). Step f (view p) e w) (sym s.shared)
        (subst (λ (has : Whole → Whole). Step Shared has e w) (view-viewed p)
        (shared_step e s.tidy c (λ d n. h d (ap (λ (f : Profile). (said_as tells f e w).told.number) s.shared ∙ n))))

  -- ---- a run

  -- a run says to the party what it hears alone, and leaves it what it has alone
  pub as-alone : (p : Party) (es : List (Event Ask)) (w : Whole) → Sound w → Unspent tells p es w
      → (heard tells p es w ≡ heard_alone tells p (stripped p es) (view p w)) × (view p (after es w) ≡ after_alone p (stripped p es) (view p w))
  unfolding heard after Unspent heard_alone after_alone keep
  as-alone p [] w s h = (refl, refl)
  as-alone p (e ∷ es) w s h = go (concerns p e) refl (as-alone p es (happen e w) (stays-sound w s e) h.1)
    where
      Rest : Type 0
      Rest = (heard tells p es (happen e w) ≡ heard_alone tells p (stripped p es) (view p (happen e w))) × (view p (after es (happen e w)) ≡ after_alone p (stripped p es) (view p (happen e w)))

      go : (b : Bool) → concerns p e ≡ b → Rest
          → (pick b (said tells e w ∷ heard tells p es (happen e w)) (heard tells p es (happen e w)) ≡ heard_alone tells p (pick b (e ∷ stripped p es) (stripped p es)) (view p w))
          × (view p (after es (happen e w)) ≡ after_alone p (pick b (e ∷ stripped p es) (stripped p es)) (view p w))
      go true c ih =
          let x = step p w s e c (h.0 c) in (
            ap₂ (λ (a : Said) (l : List Said). a ∷ l) (sym x.says_so) (ih.0 ∙ ap (heard_alone tells p (stripped p es)) (sym x.leaves_so)),
            ih.1 ∙ ap (after_alone p (stripped p es)) (sym x.leaves_so),
          )
      go false c ih = (ih.0 ∙ ap (heard_alone tells p (stripped p es)) (pass p w s e c), ih.1 ∙ ap (after_alone p (stripped p es)) (pass p w s e c))

  -- from two tables of which the party has the same
  pub two-tables : (p : Party) (es fs : List (Event Ask)) (w v : Whole) → Sound w → Sound v → Unspent tells p es w → Unspent tells p fs v → stripped p es ≡ stripped p fs → view p w ≡ view p v
      → (heard tells p es w ≡ heard tells p fs v) × (view p (after es w) ≡ view p (after fs v))
  two-tables p es fs w v s r a b same has =
      let x = as-alone p es w s a in
      let y = as-alone p fs v r b in (
        x.0 ∙ ap₂ (heard_alone tells p) same has ∙ sym y.0,
        x.1 ∙ ap₂ (after_alone p) same has ∙ sym y.1,
      )

  -- Two runs from one shared table that the rules hold of (14), of any mode. They agree on the party's own calls and on all that is common, clocks included,
  -- and differ in the other's calls; no delta is applied; none of the party's own writes and deletes is answered 6 in either. Then every call that concerns the
  -- party is told the same in both, and at the end the party has the same: keys, values, statuses, starts, heartbeats, and what is remembered of removed nodes.
  pub two_runs : (p : Party) (es fs : List (Event Ask)) (w : Whole) → w.kind.profile ≡ Shared → obeys_whole w ≡ true → Unspent tells p es w → Unspent tells p fs w → stripped p es ≡ stripped p fs
      → (heard tells p es w ≡ heard tells p fs w) × (view p (after es w) ≡ view p (after fs w))
  two_runs p es fs w k o a b same = two-tables p es fs w w (obeys-sound w k o) (obeys-sound w k o) a b same refl

  -- the ticket's own condition is enough
  pub no-six-unspent : (p : Party) (es : List (Event Ask)) (w : Whole) → NoSix tells es w → Unspent tells p es w
  unfolding NoSix Unspent
  no-six-unspent p [] w h = tt
  no-six-unspent p (e ∷ es) w h = (λ c d. h.0, no-six-unspent p es (happen e w) h.1)

  pub no_six : (p : Party) (es fs : List (Event Ask)) (w : Whole) → w.kind.profile ≡ Shared → obeys_whole w ≡ true → NoSix tells es w → NoSix tells fs w → stripped p es ≡ stripped p fs
      → (heard tells p es w ≡ heard tells p fs w) × (view p (after es w) ≡ view p (after fs w))
  no_six p es fs w k o a b = two_runs p es fs w k o (no-six-unspent p es w a) (no-six-unspent p fs w b)
