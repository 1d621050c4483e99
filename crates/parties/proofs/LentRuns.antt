-- Ticket 9's two runs of lent bytes. On the bytes of a table that obeys the rules a run says and leaves what it says and leaves of the table; on other bytes
-- every call is refused with 14 and leaves them. Assumes nothing.
use Prim.Native.Nat.{ℕ}
use mathlib.Core.Bool.{Bool, true, false}
use mathlib.Core.List.{List, [], ◌∷◌}
use mathlib.Core.Path.{◌≡◌, refl, ap, ap₂, sym, ◌∙◌, subst}
use borrow.Author.Tests.{ltb-true}
use Rattle.fields.specs.Choice.{pick, keep, all}
use Rattle.fields.proofs.Choice.{and_left, and_right}
use Rattle.rules.specs.Sizes.{numbers}
use Rattle.rules.specs.Answers.{answer_told, offered_told, remembered_told, listed_told}
use Rattle.rules.specs.Given.{Given, given}
use Rattle.rules.specs.Node.{Call, Setting, SettingTtl, Deleting, DeletingAfterTtl, due}
use Rattle.rules.specs.Table.{Table, numbers_of, obeys}
use Rattle.rules.specs.Memory.{heartbeat_of}
use Rattle.rules.specs.Profile.{profile_obeys}
use Rattle.rules.specs.Whole.{Whole, decode_whole, encode_whole, obeys_whole, valid_whole, with_table}
use Rattle.rules.specs.Local.{NotFound, Outcome, call_as, write_as, gc, offer, local_beat, lookup_as, prefixed_as}
use Rattle.rules.specs.Lent.{add_whole, remove_whole, from_table, lent_removed, on_table, on_whole, remembered_as, stored_in}
use Rattle.std.specs.Prelude.{Err, Option, Result}
use Rattle.rules.specs.declared.Heartbeat.{Heartbeat}
use Rattle.rules.specs.declared.Refusal.{Refusal}
use Rattle.rules.specs.declared.Party.{Party}
use Rattle.rules.specs.declared.Profile.{Profile}
use Rattle.rules.specs.declared.Profile.TheVariants.{Shared}
use Rattle.rules.specs.declared.Refusal.TheVariants.{BadTable}
use Rattle.rules.proofs.Calls.{beat-keeps, call-keeps, gc-keeps, numbers-beat, numbers-call, numbers-offer, offer-keeps}
use Rattle.rules.proofs.Keeps.{ClockFits}
use Rattle.rules.proofs.Memories.{add-keeps-whole, remove-keeps-whole, same_nodes, whole-table}
use Rattle.rules.proofs.Refusing.{whole-bytes}
use Rattle.rules.proofs.Tables.{numbers-remove}
use Rattle.rules.proofs.Writing.{call-as, write_as_lem}
use Rattle.table.proofs.Encoded.{from-whole, on-whole, whole-whole}
use Rattle.table.proofs.Wholes.{decode-encode-whole, valid-encode-whole, whole-obeys}
use Rattle.parties.specs.Readings.{Lookup, Listing, Counting, RecordAt, RecordOf, found_said, reading_said}
use Rattle.parties.specs.TwoRuns.{Event, Writing, Calling, Asking, Removing, Adding, Dropping, Remembering, Offering, Beating, happen, after, Said, says, said, Telling, Blind, concerns, stripped, heard, Unspent, view}
use Rattle.parties.specs.LentRuns.{Alike, LentTelling, Lends, lent_happen, lent_after, lent_reading_said, lent_said, lent_heard, LentUnspent, lent_view, clock_fits, event_fits, all_fit}
use Rattle.parties.proofs.Runs.{Sound, obeys-sound, stays-sound, two-tables}

-- ---- the rules are kept

clock-fits : (c : Call) → clock_fits c ≡ true → ClockFits c
clock-fits (Setting v) h = tt
clock-fits (SettingTtl v now) h = ltb-true now numbers h
clock-fits (Deleting now) h = ltb-true now numbers h
clock-fits (DeletingAfterTtl now) h = ltb-true now numbers h

module _ (f : Profile) (p : Party) (t : Table) where
  call-rules : (c : Call) (i : ℕ) (k : List ℕ) → ClockFits c → obeys t ≡ true → obeys (call_as f p c i k t).table ≡ true
  call-rules c i k h o = call-as f p c i k t (λ x. obeys x.table ≡ true) (call-keeps c i k t h o) (λ r by. o)

  write-rules : (wanted : ℕ) (v : List ℕ) (now i : ℕ) (k : List ℕ) → ClockFits (SettingTtl v now) → obeys t ≡ true → obeys (write_as f p wanted v now i k t).table ≡ true
  write-rules wanted v now i k h o = write_as_lem f p wanted v now i k t (λ x. obeys x.table ≡ true) (call-rules (Setting v) i k tt o) (call-rules (SettingTtl v now) i k h o) o

  call-numbers : (c : Call) (i : ℕ) (k : List ℕ) → numbers_of (call_as f p c i k t).table ≡ numbers_of t
  call-numbers c i k = call-as f p c i k t (λ x. numbers_of x.table ≡ numbers_of t) (numbers-call c i k t) (λ r by. refl)

  write-numbers : (wanted : ℕ) (v : List ℕ) (now i : ℕ) (k : List ℕ) → numbers_of (write_as f p wanted v now i k t).table ≡ numbers_of t
  write-numbers wanted v now i k = write_as_lem f p wanted v now i k t (λ x. numbers_of x.table ≡ numbers_of t) (call-numbers (Setting v) i k) (call-numbers (SettingTtl v now) i k) refl

module _ (w : Whole) (s : Sound w) (o : obeys_whole w ≡ true) where
  -- where the nodes stay
  stays : (t : Table) → Sound (with_table t w) → obeys t ≡ true → numbers_of t ≡ numbers_of w.table → obeys_whole (with_table t w) ≡ true
  stays t z k e = same_nodes w o t k (subst (λ (f : Profile). profile_obeys f t ≡ true) (sym s.shared) z.tidy.formed) e

  pub happen-obeys : {Ask : Type 0} (e : Event Ask) → event_fits e ≡ true → obeys_whole (happen e w) ≡ true
  unfolding gc
  happen-obeys {Ask} (Writing q wanted v now i k) h =
      stays _ (stays-sound {Ask = Ask} w s (Writing q wanted v now i k)) (write-rules w.kind.profile q w.table wanted v now i k (ltb-true now numbers h) (whole-table w o)) (write-numbers w.kind.profile q w.table wanted v now i k)
  happen-obeys {Ask} (Calling q i k c) h =
      stays _ (stays-sound {Ask = Ask} w s (Calling q i k c)) (call-rules w.kind.profile q w.table c i k (clock-fits c h) (whole-table w o)) (call-numbers w.kind.profile q w.table c i k)
  happen-obeys {Ask} (Asking q x) h = o
  happen-obeys {Ask} (Removing now grace) h = stays _ (stays-sound {Ask = Ask} w s (Removing now grace)) (gc-keeps now grace w.table (whole-table w o)) (numbers-remove (λ i. due now grace) w.table)
  happen-obeys {Ask} (Adding i) h = add-keeps-whole w o i (ltb-true i numbers h)
  happen-obeys {Ask} (Dropping i) h = remove-keeps-whole w o i
  happen-obeys {Ask} (Remembering i) h = o
  happen-obeys {Ask} (Offering i b) h = stays _ (stays-sound {Ask = Ask} w s (Offering i b)) (offer-keeps i b w.table (ltb-true b.0 numbers h) (whole-table w o)) (numbers-offer i b w.table)
  happen-obeys {Ask} (Beating i) h = stays _ (stays-sound {Ask = Ask} w s (Beating i)) (beat-keeps i w.table (whole-table w o)) (numbers-beat i w.table)

-- ---- the bytes of a table that obeys

module _ (w : Whole) (o : obeys_whole w ≡ true) where
  abbrev l : List ℕ
  l = encode_whole w

  same-profile : (decode_whole (encode_whole w)).kind.profile ≡ w.kind.profile
  same-profile = ap (λ (u : Whole). u.kind.profile) (decode-encode-whole w o)

  -- a rule by the profile of the bytes
  on-profile : {A : Type 0} (bad : A) (rule : Profile → Table → Outcome A) → on_table bad (rule (decode_whole (encode_whole w)).kind.profile) (encode_whole w) ≡ stored_in w (rule w.kind.profile w.table)
  on-profile bad rule = on-whole w o bad (rule (decode_whole l).kind.profile) ∙ ap (λ (f : Profile). stored_in w (rule f w.table)) same-profile

  pub from-profile : {A : Type 0} (bad : A) (rule : Profile → Table → A) → from_table bad (rule (decode_whole (encode_whole w)).kind.profile) (encode_whole w) ≡ rule w.kind.profile w.table
  from-profile bad rule = from-whole w o bad (rule (decode_whole l).kind.profile) ∙ ap (λ (f : Profile). rule f w.table) same-profile

  pub lent-leaves : {Ask : Type 0} (e : Event Ask) → lent_happen e (encode_whole w) ≡ encode_whole (happen e w)
  lent-leaves (Writing q wanted v now i k) = ap (λ (g : Given (Result (Unit {0}) Refusal) (List ℕ)). g.lent) (on-profile (Err BadTable) (λ f. write_as f q wanted v now i k))
  lent-leaves (Calling q i k c) = ap (λ (g : Given (Result (Unit {0}) Refusal) (List ℕ)). g.lent) (on-profile (Err BadTable) (λ f. call_as f q c i k))
  lent-leaves (Asking q x) = refl
  lent-leaves (Removing now grace) = ap (λ (g : Given (Result (Unit {0}) Refusal) (List ℕ)). g.lent) (on-whole w o (Err BadTable) (gc now grace))
  lent-leaves (Adding i) = ap (λ (g : Given (Result (Unit {0}) Refusal) (List ℕ)). g.lent) (whole-whole w o (Err BadTable) (add_whole i))
  lent-leaves (Dropping i) = ap (λ (g : Given (Result (Unit {0}) Refusal) (List ℕ)). g.lent) (whole-whole w o (Err BadTable) (remove_whole i))
  lent-leaves (Remembering i) = refl
  lent-leaves (Offering i h) = ap (λ (g : Given (Result Bool Refusal) (List ℕ)). g.lent) (on-whole w o (Err BadTable) (offer i h))
  lent-leaves (Beating i) = ap (λ (g : Given (Result (Unit {0}) Refusal) (List ℕ)). g.lent) (on-whole w o (Err BadTable) (local_beat i))

  removed-says : (i : ℕ) → lent_removed i (encode_whole w) ≡ remembered_as (heartbeat_of i w.memory)
  unfolding lent_removed
  removed-says i =
      ap (λ (b : Bool). pick b (remembered_as (heartbeat_of i (decode_whole l).memory)) (Err BadTable)) (valid-encode-whole w o)
      ∙ ap (λ (u : Whole). remembered_as (heartbeat_of i u.memory)) (decode-encode-whole w o)

module _ {Ask : Type 0} (lent_tells : LentTelling Ask) (tells : Telling Ask) (lends : Lends lent_tells tells) where
  pub lent_says : (w : Whole) → obeys_whole w ≡ true → (e : Event Ask) → lent_said lent_tells e (encode_whole w) ≡ said tells e w
  unfolding gc
  lent_says w o (Writing q wanted v now i k) = ap (λ (g : Given (Result (Unit {0}) Refusal) (List ℕ)). says (answer_told g.answer) []) (on-profile w o (Err BadTable) (λ f. write_as f q wanted v now i k))
  lent_says w o (Calling q i k c) = ap (λ (g : Given (Result (Unit {0}) Refusal) (List ℕ)). says (answer_told g.answer) []) (on-profile w o (Err BadTable) (λ f. call_as f q c i k))
  lent_says w o (Asking q x) = lends q x w o
  lent_says w o (Removing now grace) = ap (λ (g : Given (Result (Unit {0}) Refusal) (List ℕ)). says (answer_told g.answer) []) (on-whole w o (Err BadTable) (gc now grace))
  lent_says w o (Adding i) = ap (λ (g : Given (Result (Unit {0}) Refusal) (List ℕ)). says (answer_told g.answer) []) (whole-whole w o (Err BadTable) (add_whole i))
  lent_says w o (Dropping i) = ap (λ (g : Given (Result (Unit {0}) Refusal) (List ℕ)). says (answer_told g.answer) []) (whole-whole w o (Err BadTable) (remove_whole i))
  lent_says w o (Remembering i) = ap (λ (a : (Result (Option Heartbeat) Refusal)). says (remembered_told a) []) (removed-says w o i)
  lent_says w o (Offering i h) = ap (λ (g : Given (Result Bool Refusal) (List ℕ)). says (offered_told g.answer) []) (on-whole w o (Err BadTable) (offer i h))
  lent_says w o (Beating i) = ap (λ (g : Given (Result (Unit {0}) Refusal) (List ℕ)). says (answer_told g.answer) []) (on-whole w o (Err BadTable) (local_beat i))

  -- a run
  record Same (p : Party) (es : List (Event Ask)) (w : Whole) : Type 0 where
    pub hears : lent_heard lent_tells p es (encode_whole w) ≡ heard tells p es w
    pub leaves : lent_after es (encode_whole w) ≡ encode_whole (after es w)
    pub obeys-after : obeys_whole (after es w) ≡ true
    pub unspent : LentUnspent lent_tells p es (encode_whole w) → Unspent tells p es w

  lent-run : (p : Party) (es : List (Event Ask)) (w : Whole) → Sound w → obeys_whole w ≡ true → all_fit es ≡ true → Same p es w
  unfolding lent_heard heard lent_after after LentUnspent Unspent all
  lent-run p [] w s o h = record { hears = refl; leaves = refl; obeys-after = o; unspent = λ u. tt }
  lent-run p (e ∷ es) w s o h =
      go (lent-run p es (happen e w) (stays-sound w s e) (happen-obeys w s o e (and_left (event_fits e) (all_fit es) h)) (and_right (event_fits e) (all_fit es) h))
    where
      go : Same p es (happen e w) → Same p (e ∷ es) w
      go ih =
          record {
            hears =
                ap₂ (λ (a : Said) (l : List ℕ). pick (concerns p e) (a ∷ lent_heard lent_tells p es l) (lent_heard lent_tells p es l)) (lent_says w o e) (lent-leaves w o e)
                ∙ ap (λ (x : List Said). pick (concerns p e) (said tells e w ∷ x) x) ih.hears;
            leaves = ap (lent_after es) (lent-leaves w o e) ∙ ih.leaves;
            obeys-after = ih.obeys-after;
            unspent =
                λ u. (
                  λ c d n. u.0 c d (ap (λ (a : Said). a.told.number) (lent_says w o e) ∙ n),
                  ih.unspent (subst (LentUnspent lent_tells p es) (lent-leaves w o e) u.1),
                );
          }

-- ---- other bytes: 14, and nothing changes

module _ (l : List ℕ) (bad : valid_whole l ≡ false) where
  no_table : {A : Type 0} (b : A) (rule : Table → Outcome A) → on_table b rule l ≡ given b l
  unfolding on_table
  no_table b rule = ap (λ (x : Bool). pick x (stored_in (decode_whole l) (rule (decode_whole l).table)) (given b l)) bad

  no_whole : {A : Type 0} (b : A) (rule : Whole → Given A Whole) → on_whole b rule l ≡ given b l
  unfolding on_whole
  no_whole b rule = ap (λ (x : Bool). pick x (given (rule (decode_whole l)).answer (encode_whole (rule (decode_whole l)).lent)) (given b l)) bad

  bad-leaves : {Ask : Type 0} (e : Event Ask) → lent_happen e l ≡ l
  bad-leaves (Writing q wanted v now i k) = ap (λ (g : Given (Result (Unit {0}) Refusal) (List ℕ)). g.lent) (no_table (Err BadTable) (write_as (decode_whole l).kind.profile q wanted v now i k))
  bad-leaves (Calling q i k c) = ap (λ (g : Given (Result (Unit {0}) Refusal) (List ℕ)). g.lent) (no_table (Err BadTable) (call_as (decode_whole l).kind.profile q c i k))
  bad-leaves (Asking q x) = refl
  bad-leaves (Removing now grace) = ap (λ (g : Given (Result (Unit {0}) Refusal) (List ℕ)). g.lent) (no_table (Err BadTable) (gc now grace))
  bad-leaves (Adding i) = ap (λ (g : Given (Result (Unit {0}) Refusal) (List ℕ)). g.lent) (no_whole (Err BadTable) (add_whole i))
  bad-leaves (Dropping i) = ap (λ (g : Given (Result (Unit {0}) Refusal) (List ℕ)). g.lent) (no_whole (Err BadTable) (remove_whole i))
  bad-leaves (Remembering i) = refl
  bad-leaves (Offering i h) = ap (λ (g : Given (Result Bool Refusal) (List ℕ)). g.lent) (no_table (Err BadTable) (offer i h))
  bad-leaves (Beating i) = ap (λ (g : Given (Result (Unit {0}) Refusal) (List ℕ)). g.lent) (no_table (Err BadTable) (local_beat i))

  bad-after : {Ask : Type 0} (es : List (Event Ask)) → lent_after es l ≡ l
  unfolding lent_after
  bad-after [] = refl
  bad-after (e ∷ es) = ap (lent_after es) (bad-leaves e) ∙ bad-after es

module _ {Ask : Type 0} (tells : LentTelling Ask) where
  -- what each of these says
  each : (l : List ℕ) (es : List (Event Ask)) → List Said
  each l [] = []
  each l (e ∷ es) = lent_said tells e l ∷ each l es

  bad-heard : (p : Party) (l : List ℕ) → valid_whole l ≡ false → (es : List (Event Ask)) → lent_heard tells p es l ≡ each l (stripped p es)
  unfolding lent_heard keep each
  bad-heard p l bad [] = refl
  bad-heard p l bad (e ∷ es) = ap (λ (x : List ℕ). pick (concerns p e) (lent_said tells e l ∷ lent_heard tells p es x) (lent_heard tells p es x)) (bad-leaves l bad e) ∙ go (concerns p e) (bad-heard p l bad es)
    where
      go : (b : Bool) → lent_heard tells p es l ≡ each l (stripped p es) → pick b (lent_said tells e l ∷ lent_heard tells p es l) (lent_heard tells p es l) ≡ each l (pick b (e ∷ stripped p es) (stripped p es))
      go true ih = ap (λ (x : List Said). lent_said tells e l ∷ x) ih
      go false ih = ih

-- ---- two runs

module _ {Ask : Type 0} (lent_tells : LentTelling Ask) (tells : Telling Ask) (lends : Lends lent_tells tells) (blind : Blind tells) where
  -- Two runs of calls from the same bytes, whatever these are; where they are a table, it is shared.
  pub lent-two-runs : (p : Party) (es fs : List (Event Ask)) (l : List ℕ) → (decode_whole l).kind.profile ≡ Shared → all_fit es ≡ true → all_fit fs ≡ true
      → LentUnspent lent_tells p es l → LentUnspent lent_tells p fs l → stripped p es ≡ stripped p fs → Alike lent_tells p es fs l
  lent-two-runs p es fs l shared ee ff a b same = go (valid_whole l) refl
    where
      go : (v : Bool) → valid_whole l ≡ v → Alike lent_tells p es fs l
      go true v =
          let w = decode_whole l in
          let o = whole-obeys l v in
          let q : encode_whole w ≡ l = whole-bytes l v in
          let s = obeys-sound w shared o in
          let x = lent-run lent_tells tells lends p es w s o ee in
          let y = lent-run lent_tells tells lends p fs w s o ff in
          let z = two-tables tells blind p es fs w w s s (x.unspent (subst (LentUnspent lent_tells p es) (sym q) a)) (y.unspent (subst (LentUnspent lent_tells p fs) (sym q) b)) same refl in
          subst (Alike lent_tells p es fs) q
          (record {
            hear = x.hears ∙ z.0 ∙ sym y.hears;
            have =
                ap (lent_view p) x.leaves ∙ ap (view p) (decode-encode-whole (after es w) x.obeys-after) ∙ z.1
                ∙ sym (ap (lent_view p) y.leaves ∙ ap (view p) (decode-encode-whole (after fs w) y.obeys-after));
            stand = ap valid_whole x.leaves ∙ valid-encode-whole (after es w) x.obeys-after ∙ sym (ap valid_whole y.leaves ∙ valid-encode-whole (after fs w) y.obeys-after);
          })
      go false v =
          record {
            hear = bad-heard lent_tells p l v es ∙ ap (each lent_tells l) same ∙ sym (bad-heard lent_tells p l v fs);
            have = ap (lent_view p) (bad-after l v es ∙ sym (bad-after l v fs));
            stand = ap valid_whole (bad-after l v es ∙ sym (bad-after l v fs));
          }

-- ---- the readings in the rules' own terms

pub readings-lent : Lends lent_reading_said reading_said
readings-lent p (Lookup i k) w o = ap found_said (from-profile w o (NotFound BadTable) (λ f. lookup_as f p i k))
readings-lent p (Listing i k list) w o =
    ap (λ (g : Given (Result ℕ Refusal) (List ℕ)). says (listed_told g.answer) (g.lent ∷ [])) (from-profile w o (given (Err BadTable) list) (λ f t. prefixed_as f p i k t list))
readings-lent p (Counting i) w o = from-profile w o _ (λ f. reading_said f p (Counting i))
readings-lent p (RecordAt i j) w o = from-profile w o _ (λ f. reading_said f p (RecordAt i j))
readings-lent p (RecordOf i k) w o = from-profile w o _ (λ f. reading_said f p (RecordOf i k))
