-- The rules' own calls by a party: on a shared table that obeys the rules they are those of the ticket's order, so what holds of these (Steps) holds of them.
-- Assumes nothing.
use Prim.Native.Nat.{ℕ}
use mathlib.Core.Bool.{Bool, true, false}
use mathlib.Core.List.{List}
use mathlib.Core.Path.{◌≡◌, refl, ap, sym, ◌∙◌, subst}
use lib.Dec.{eqb}
use Rattle.fields.specs.Choice.{pick}
use Rattle.rules.specs.Node.{Call, Setting, SettingTtl}
use Rattle.rules.specs.Table.{Table}
use Rattle.rules.specs.Party.{own}
use Rattle.rules.specs.Profile.{profile_obeys}
use Rattle.rules.specs.Local.{Outcome, gives, call_as, write_as}
use Rattle.rules.specs.Delta.{status_byte}
use Rattle.rules.specs.declared.Party.{Party}
use Rattle.rules.specs.declared.Profile.TheVariants.{Shared}
use Rattle.rules.specs.declared.Status.TheVariants.{Set, Ttl}
use Rattle.rules.specs.declared.Refusal.TheVariants.{Exhausted, BadTag}
use Rattle.std.specs.Prelude.{Err, Result}
use Rattle.rules.specs.declared.Refusal.{Refusal}
use Rattle.rules.proofs.Writing.{write_as_lem}
use Rattle.parties.specs.Order.{call_by}
use Rattle.parties.specs.TwoRuns.{same_party}
use Rattle.parties.proofs.Apart.{apart}
use Rattle.parties.proofs.Tables.{view_table, table-twice, InOrder}
use Rattle.parties.proofs.Order.{shared-order}
use Rattle.parties.proofs.Kept.{view-obeys, call-obeys}
use Rattle.parties.proofs.Steps.{Alike, call-alike, call-other, call-ordered}

-- what is asked of the table: its keys stand in order, and it obeys what the shared profile adds
pub record Tidy (t : Table) : Type 0 where
  pub ordered : InOrder t
  pub formed : profile_obeys Shared t ≡ true

module _ (p : Party) (t : Table) (s : Tidy t) where
  pub call-own : (c : Call) (i : ℕ) (k : List ℕ) → ((call_as Shared p c i k t).answer ≡ Err Exhausted → ⊥) → Alike (own p) (call_as Shared p c i k t) (call_as Shared p c i k (view_table (own p) t))
  call-own c i k h =
      let x = shared-order p c i k t s.formed in
      let y = shared-order p c i k (view_table (own p) t) (view-obeys (own p) t s.formed) in
      subst (λ (o : Outcome (Result (Unit {0}) Refusal)). Alike (own p) o (call_as Shared p c i k (view_table (own p) t))) (sym x)
      (subst (λ (v : Outcome (Result (Unit {0}) Refusal)). Alike (own p) (call_by (own p) c i k t) v) (sym y)
      (call-alike (own p) c i k t s.ordered (λ e. h (ap (λ (o : Outcome (Result (Unit {0}) Refusal)). o.answer) x ∙ e))))

  pub write-own : (wanted : ℕ) (v : List ℕ) (now i : ℕ) (k : List ℕ) → ((write_as Shared p wanted v now i k t).answer ≡ Err Exhausted → ⊥)
      → Alike (own p) (write_as Shared p wanted v now i k t) (write_as Shared p wanted v now i k (view_table (own p) t))
  unfolding write_as
  write-own wanted v now i k h = go (eqb wanted (status_byte Set)) (eqb wanted (status_byte Ttl)) h
    where
      go : (a b : Bool)
          → ((pick a (call_as Shared p (Setting v) i k t) (pick b (call_as Shared p (SettingTtl v now) i k t) (gives (Err BadTag) t))).answer ≡ Err Exhausted → ⊥)
          → Alike (own p) (pick a (call_as Shared p (Setting v) i k t) (pick b (call_as Shared p (SettingTtl v now) i k t) (gives (Err BadTag) t)))
          (pick a (call_as Shared p (Setting v) i k (view_table (own p) t)) (pick b (call_as Shared p (SettingTtl v now) i k (view_table (own p) t)) (gives (Err BadTag) (view_table (own p) t))))
      go true b h = call-own (Setting v) i k h
      go false true h = call-own (SettingTtl v now) i k h
      go false false h = record { answers = refl; views = table-twice (own p) t }

  -- of another
  module _ (q : Party) (other : same_party p q ≡ false) where
    pub call_passes : (c : Call) (i : ℕ) (k : List ℕ) → view_table (own p) (call_as Shared q c i k t).table ≡ view_table (own p) t
    call_passes c i k =
        ap (λ (o : Outcome (Result (Unit {0}) Refusal)). view_table (own p) o.table) (shared-order q c i k t s.formed) ∙ call-other (own p) (own q) (apart p q other) c i k t

    pub write-passes : (wanted : ℕ) (v : List ℕ) (now i : ℕ) (k : List ℕ) → view_table (own p) (write_as Shared q wanted v now i k t).table ≡ view_table (own p) t
    write-passes wanted v now i k =
        write_as_lem Shared q wanted v now i k t (λ o. view_table (own p) o.table ≡ view_table (own p) t) (call_passes (Setting v) i k) (call_passes (SettingTtl v now) i k) refl

  pub call-tidy : (c : Call) (i : ℕ) (k : List ℕ) → Tidy (call_as Shared p c i k t).table
  call-tidy c i k =
      subst (λ (o : Outcome (Result (Unit {0}) Refusal)). Tidy o.table) (sym (shared-order p c i k t s.formed))
      (record { ordered = call-ordered (own p) c i k t s.ordered; formed = call-obeys p c i k t s.ordered s.formed })

  pub write-tidy : (wanted : ℕ) (v : List ℕ) (now i : ℕ) (k : List ℕ) → Tidy (write_as Shared p wanted v now i k t).table
  write-tidy wanted v now i k = write_as_lem Shared p wanted v now i k t (λ o. Tidy o.table) (call-tidy (Setting v) i k) (call-tidy (SettingTtl v now) i k) s
