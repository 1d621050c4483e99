-- `record_check::check_record` meets its contract: a test that fails is one of the record's tests, and past all but the zeros only these are left.
-- Assumes nothing.
use Prim.Native.Nat.{ℕ, ◌≤◌}
use mathlib.Core.Path.{◌≡◌, ◌∙◌, ap, sym}
use mathlib.Core.Bool.{Bool, true, false, ◌&&◌}
use mathlib.Core.List.{List}
use native.Mathlib.Omega.{arith}
use borrow.Author.Tests.{le-leb, lt-leb}
use Rattle.fields.specs.Numbers.{nat_of}
use Rattle.fields.specs.Parts.{part}
use Rattle.fields.specs.Widths.{offset}
use Rattle.fields.proofs.Choice.{and_yes, and_no, and_last}
use Rattle.rules.specs.Sizes.{max_key, max_value}
use Rattle.rules.specs.Layout.{rec_widths}
use Rattle.table.specs.Tests.{rec_good, key_length, value_length, version_of, clean}
use Rattle.table.proofs.Records.{rec-stop}
use Rattle.record_check.proofs.check_record.Goals as goal

-- past the five tests only the zeros are left, and those behind the key come first
module _ (max : ℕ) (b : List ℕ) (k v : ℕ) (ek : k ≡ key_length b) (ev : v ≡ value_length b) (h1 : k ≤ max_key) (h2 : v ≤ max_value) (h3 : 1 ≤ version_of b) (h4 : version_of b ≤ max)
    (h5 : nat_of (part (offset rec_widths 5) 1 b) ≤ 2) {t : Bool} (is : t ≡ clean (offset rec_widths 1) max_key k b) where
  past : rec_good max b ≡ (t && clean (offset rec_widths 3) max_value v b)
  unfolding rec_good
  past =
      rw (is, ek, ev, rec_good, le-leb (key_length b) max_key (omega arith), le-leb (value_length b) max_value (omega arith), le-leb 1 (version_of b) h3, le-leb (version_of b) max h4, le-leb (nat_of (part (offset rec_widths 5) 1 b)) 2 h5)
      (ap (λ (u : Bool). clean (offset rec_widths 1) max_key (key_length b) b && u) (and_last _))

  zeros : t ≡ true → clean (offset rec_widths 3) max_value v b ≡ rec_good max b
  zeros e = sym (past ∙ and_yes _ _ e)

  dirt : t ≡ false → false ≡ rec_good max b
  dirt e = sym (past ∙ and_no _ _ e)

pub returns-then-k-gt-KEY : goal.returns-then-k-gt-KEY
returns-then-k-gt-KEY c =
    let a = c.args in
    rec-stop a.max a.«record».now 0 (lt-leb (key_length a.«record».now) max_key (omega arith))

pub returns-then-v-gt-VALUE : goal.returns-then-v-gt-VALUE
returns-then-v-gt-VALUE c =
    let a = c.args in
    rec-stop a.max a.«record».now 1 (lt-leb (value_length a.«record».now) max_value (omega arith))

pub returns-then-version-eq0 : goal.returns-then-version-eq0
returns-then-version-eq0 c =
    let a = c.args in
    rec-stop a.max a.«record».now 2 (lt-leb 1 (version_of a.«record».now) (omega arith))

pub returns-then-max-version : goal.returns-then-max-version
returns-then-max-version c =
    let a = c.args in
    rec-stop a.max a.«record».now 3 (lt-leb (version_of a.«record».now) a.max (omega arith))

pub returns-then-byte_at-gt2 : goal.returns-then-byte_at-gt2
returns-then-byte_at-gt2 c =
    let a = c.args in
    rec-stop a.max a.«record».now 4 (lt-leb (nat_of (part 106 1 a.«record».now)) 2 (omega arith))

pub returns-then-clean_behind : goal.returns-then-clean_behind
returns-then-clean_behind c =
    let a = c.args in
    c.clean_behind-then-clean_behind.ensures
    ∙ zeros a.max a.«record».now _ _ c.byte_at-k.ensures.0 c.byte_at-v.ensures.0 (omega arith) (omega arith) (omega arith) (omega arith) (omega arith) c.clean_behind.ensures c.if-clean_behind.true

pub returns-else-clean_behind : goal.returns-else-clean_behind
returns-else-clean_behind c =
    let a = c.args in
    dirt a.max a.«record».now _ _ c.byte_at-k.ensures.0 c.byte_at-v.ensures.0 (omega arith) (omega arith) (omega arith) (omega arith) (omega arith) c.clean_behind.ensures c.if-clean_behind.false
