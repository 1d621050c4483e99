-- Reading at a place is the rules' reading of what stands from there on: `read_at`, an equation, so that an operation is accepted exactly
-- where the rules accept it and refused with exactly their number. An operation takes at least a byte and ends within the bytes (`op-next`).
-- Assumes nothing.
use Prim.Native.Nat.{ℕ, zero, suc, ◌+◌, ◌-◌, ◌≤◌, ◌<◌}
use mathlib.Core.Path.{◌≡◌, refl, ap, ◌∙◌, subst}
use mathlib.Core.Logic.{◌⊎◌, inl, inr}
use mathlib.Core.Bool.{true, false}
use mathlib.Core.List.{List}
use native.Mathlib.Omega.{arith}
use native.Mathlib.Decide.{dec_le}
use lib.ListN.{length, drop, length-drop}
use lib.Seq.{drop-drop}
use lib.Dec.{leb}
use borrow.Author.Tests.{le-leb, lt-leb}
use Rattle.fields.specs.Numbers.{Bytes, nat_of}
use Rattle.fields.specs.Parts.{part}
use Rattle.fields.specs.Widths.{offset, total}
use Rattle.rules.specs.Sizes.{max_key, max_value}
use Rattle.rules.specs.Delta as rule
use Rattle.rules.specs.Delta.{byte_width, length_width, max_op_width, node_op_width, node_op_widths, number_width, status_byte, version_widths}
use Rattle.rules.specs.Layout.{status_of_byte}
use Rattle.rules.specs.declared.Status.{Status}
use Rattle.rules.specs.declared.Status.TheVariants.{Ttl}
use Rattle.rules.specs.declared.Refusal.TheVariants.{Cut, BadTag}
use Rattle.delta_op.specs.declared.Op.{Op}
use Rattle.std.specs.Prelude.{Err, Ok, Result}
use Rattle.rules.specs.declared.Refusal.{Refusal}
use Rattle.delta_op.specs.declared.TextFault.{TextFault}
use Rattle.delta_op.specs.declared.TextFault.TheVariants as fault
use Rattle.delta_op.specs.Places.{Inside, key_value_at, meant, node_at, on_text, op_at, set_max_version_at, tagged_at, text_at, value_at, version_at, width_of}

-- ---- one field

-- a number is at most another or above it
pub le-or-lt : (a b : ℕ) → (a ≤ b) ⊎ (b < a)
le-or-lt a b = elim (dec_le a b) [
  | yes p ↦ inl p
  | no p ↦ inr (omega arith)
]

-- the same bytes lacking
lacks : {a b : ℕ} → a ≡ b → rule.Bad (Cut a) ≡ rule.Bad (Cut b)
lacks e = ap (λ (k : ℕ). rule.Bad (Cut k)) e

-- a field of w bytes, of what stands from `at` on: it is read, or the bytes end inside it
module _ (w : ℕ) (l : Bytes) (at : ℕ) where
  there : at + w ≤ length l → leb w (length (drop at l)) ≡ true
  there h = le-leb w (length (drop at l)) (simp length-drop (omega arith))

  cut : at ≤ length l → length l < at + w → leb w (length (drop at l)) ≡ false
  cut k h = lt-leb w (length (drop at l)) (simp length-drop (omega arith))

  number-there : (next : ℕ → List ℕ → rule.OpRead) → at + w ≤ length l → rule.number w next (drop at l) ≡ next (nat_of (part at w l)) (drop (at + w) l)
  unfolding part
  number-there next h = rw (there h, drop-drop w at l)

  number_cut : (next : ℕ → List ℕ → rule.OpRead) → at ≤ length l → length l < at + w
      → rule.number w next (drop at l) ≡ rule.Bad (Cut (w - (length l - at)))
  number_cut next k h = rw (cut k h) (lacks (ap (λ (n : ℕ). w - n) (length-drop at l)))

-- ---- the kinds of operation

-- what the rules read behind a tag, field by field
abbrev max_next : ℕ → List ℕ → rule.OpRead
max_next m rest = rule.Got (rule.SetMaxVersionOp m) rest

abbrev from_next : ℕ → ℕ → ℕ → List ℕ → rule.OpRead
from_next n g f rest = rule.Got (rule.NodeOp n g f) rest

abbrev last_gc_next : ℕ → ℕ → List ℕ → rule.OpRead
last_gc_next n g rest = rule.number number_width (from_next n g) rest

abbrev number_next : ℕ → List ℕ → rule.OpRead
number_next n rest = rule.number number_width (last_gc_next n) rest

-- behind the tag at `at`
module _ (l : Bytes) (at : ℕ) (in-l : at + byte_width ≤ length l) where
  pub set-max-version-read : rule.read_set_max_version (drop (at + byte_width) l) ≡ meant l (set_max_version_at l at)
  unfolding rule.read_set_max_version set_max_version_at
  set-max-version-read =
      let p : at + byte_width + number_width ≡ at + max_op_width = omega arith in
      elim (le-or-lt (at + max_op_width) (length l)) [
        | inl h ↦ number-there number_width l (at + byte_width) max_next (omega arith) ∙ rw (p, le-leb (at + max_op_width) (length l) h)
        | inr h ↦ number_cut number_width l (at + byte_width) max_next in-l (omega arith) ∙ rw (lt-leb (at + max_op_width) (length l) h) (lacks (omega arith))
      ]

  pub node-read : rule.read_node (drop (at + byte_width) l) ≡ meant l (node_at l at)
  unfolding rule.read_node node_at
  node-read =
      let first : ℕ = at + offset node_op_widths 1 in
      let second : ℕ = at + offset node_op_widths 2 in
      let third : ℕ = at + offset node_op_widths 3 in
      let p : first + number_width ≡ second = omega arith in
      let q : second + number_width ≡ third = omega arith in
      let r : third + number_width ≡ at + node_op_width = omega arith in
      let one : ℕ = nat_of (part first number_width l) in
      let two : ℕ = nat_of (part second number_width l) in
      elim (le-or-lt second (length l)) [
        | inr h ↦ number_cut number_width l first number_next in-l (omega arith) ∙ rw (lt-leb (at + node_op_width) (length l) (omega arith)) (lacks (omega arith))
        | inl h ↦ number-there number_width l first number_next (omega arith) ∙ rw p
            (elim (le-or-lt third (length l)) [
              | inr g ↦ number_cut number_width l second (last_gc_next one) h (omega arith) ∙ rw (lt-leb (at + node_op_width) (length l) (omega arith)) (lacks (omega arith))
              | inl g ↦ number-there number_width l second (last_gc_next one) (omega arith) ∙ rw q
                  (elim (le-or-lt (at + node_op_width) (length l)) [
                    | inr k ↦ number_cut number_width l third (from_next one two) g (omega arith) ∙ rw (lt-leb (at + node_op_width) (length l) k) (lacks (omega arith))
                    | inl k ↦ number-there number_width l third (from_next one two) (omega arith) ∙ rw (r, le-leb (at + node_op_width) (length l) k)
                  ])
            ])
      ]

-- a text, where what comes next is read alike behind it
text-read : (l : Bytes) (at : ℕ) → at ≤ length l → (most : ℕ) (next : List ℕ → List ℕ → rule.OpRead) (next' : ℕ → ℕ → (Result (Op × ℕ) Refusal))
    → ((k n : ℕ) → k + n ≤ length l → next (part k n l) (drop (k + n) l) ≡ meant l (next' k n))
    → rule.text most next (drop at l) ≡ meant l (on_text next' (text_at most l at))
unfolding text_at part
text-read l at in-l most next next' alike =
    let n : ℕ = nat_of (part at length_width l) in
    let start : ℕ = at + length_width in
    elim (le-or-lt start (length l)) [
      | inr h ↦ rw (cut length_width l at in-l h, lt-leb start (length l) h) (lacks (ap (λ (k : ℕ). length_width - k) (length-drop at l)))
      | inl h ↦ elim (le-or-lt n most) [
        | inr g ↦ rw (there length_width l at h, le-leb start (length l) h, lt-leb n most g)
        | inl g ↦ elim (le-or-lt (start + n) (length l)) [
          | inr k ↦
              rw (there length_width l at h, le-leb start (length l) h, le-leb n most g, drop-drop length_width at l)
              (rw (cut n l start h k, lt-leb (start + n) (length l) k) (lacks (ap (λ (i : ℕ). n - i) (length-drop start l))))
          | inl k ↦
              rw (there length_width l at h, le-leb start (length l) h, le-leb n most g, drop-drop length_width at l, there n l start k)
              (rw (le-leb (start + n) (length l) k, drop-drop n start l) (alike start n k))
        ]
      ]
    ]

-- a status up to 2, and one above
status-good : (next : Status → rule.OpRead) (b : ℕ) → b ≤ status_byte Ttl → rule.status_or next b ≡ next (status_of_byte b)
status-good next zero h = refl
status-good next (suc zero) h = refl
status-good next (suc (suc zero)) h = refl
status-good next (suc (suc (suc b))) h = absurd (omega arith)

status-bad : (next : Status → rule.OpRead) (b : ℕ) → status_byte Ttl < b → rule.status_or next b ≡ rule.Bad BadTag
status-bad next zero h = absurd (omega arith)
status-bad next (suc zero) h = absurd (omega arith)
status-bad next (suc (suc zero)) h = absurd (omega arith)
status-bad next (suc (suc (suc b))) h = refl

-- what the rules read behind the value, and behind the key
abbrev record_next : (key value : Bytes) → ℕ → List ℕ → Status → rule.OpRead
record_next k v ver rest s = rule.Got (rule.KeyValueOp (record { key = k; value = v; version = ver; status = s })) rest

abbrev status_next : (key value : Bytes) → ℕ → ℕ → List ℕ → rule.OpRead
status_next k v ver st rest = rule.status_or (record_next k v ver rest) st

abbrev after_version : (key value : Bytes) → ℕ → List ℕ → rule.OpRead
after_version k v ver rest = rule.number byte_width (status_next k v ver) rest

abbrev version_next : (key value bytes : Bytes) → rule.OpRead
version_next k v = rule.number number_width (after_version k v)

abbrev value_next : (key bytes : Bytes) → rule.OpRead
value_next k = rule.text max_value (λ v. version_next k v)

module _ (l : Bytes) (k n v m : ℕ) (in-l : v + m ≤ length l) where
  version-read : version_next (part k n l) (part v m l) (drop (v + m) l) ≡ meant l (version_at l k n v m)
  unfolding version_at
  version-read =
      let at : ℕ = v + m in
      let status : ℕ = at + offset version_widths 1 in
      let behind : ℕ = at + total version_widths in
      let b : ℕ = nat_of (part status byte_width l) in
      let p : status + byte_width ≡ behind = omega arith in
      let key : Bytes = part k n l in
      let value : Bytes = part v m l in
      let ver : ℕ = nat_of (part at number_width l) in
      elim (le-or-lt status (length l)) [
        | inr h ↦ number_cut number_width l at (after_version key value) in-l h ∙ rw (lt-leb behind (length l) (omega arith), lt-leb number_width (length l - at) (omega arith))
        | inl h ↦ number-there number_width l at (after_version key value) h ∙ elim (le-or-lt behind (length l)) [
          | inr g ↦ number_cut byte_width l status (status_next key value ver) h (omega arith)
              ∙ rw (lt-leb behind (length l) g, le-leb number_width (length l - at) (omega arith)) (lacks (omega arith))
          | inl g ↦ number-there byte_width l status (status_next key value ver) (omega arith) ∙ rw (p, le-leb behind (length l) g)
              (elim (le-or-lt b (status_byte Ttl)) [
                | inr i ↦ rw (lt-leb b (status_byte Ttl) i) (status-bad (record_next key value ver (drop behind l)) b i)
                | inl i ↦ rw (le-leb b (status_byte Ttl) i) (status-good (record_next key value ver (drop behind l)) b i)
              ])
        ]
      ]

module _ (l : Bytes) (at : ℕ) (in-l : at + byte_width ≤ length l) where
  pub key-value-read : rule.read_key_value (drop (at + byte_width) l) ≡ meant l (key_value_at l at)
  unfolding rule.read_key_value key_value_at value_at
  key-value-read =
      text-read l (at + byte_width) in-l max_key value_next (λ k n. value_at l k n)
      (λ k n h. text-read l (k + n) h max_value (version_next (part k n l)) (λ v m. version_at l k n v m) (λ v m g. version-read l k n v m g))

  tagged-read : (tag : ℕ) → rule.read_tagged tag (drop (at + byte_width) l) ≡ meant l (tagged_at tag l at)
  tagged-read zero = node-read l at in-l
  tagged-read (suc zero) = key-value-read
  tagged-read (suc (suc zero)) = set-max-version-read l at in-l
  tagged-read (suc (suc (suc n))) = refl

-- an operation read at a place is the rules' reading of what stands from there on
pub read_at : (l : Bytes) (at : ℕ) → at ≤ length l → rule.read_op (drop at l) ≡ meant l (op_at l at)
unfolding rule.read_op op_at
read_at l at in-l = elim (le-or-lt (at + byte_width) (length l)) [
  | inr h ↦ number_cut byte_width l at (λ t. rule.read_tagged t) in-l h ∙ rw (lt-leb (at + byte_width) (length l) h) (lacks (omega arith))
  | inl h ↦
      number-there byte_width l at (λ t. rule.read_tagged t) h
      ∙ rw (le-leb (at + byte_width) (length l) h) (tagged-read l at h (nat_of (part at byte_width l)))
]

-- ---- where an operation ends, and where its key and value stand

-- an operation takes its bytes, one at least, and ends within n bytes
abbrev pub Within : (n at : ℕ) (read : (Result (Op × ℕ) Refusal)) → Type 0
Within len at (Ok (o, next)) = (at < next) × (next ≤ len) × Inside len o × (next ≡ at + width_of o)
Within len at (Err r) = Unit {0}

abbrev pub TextWithin : (most n at : ℕ) (read : (Result (ℕ × ℕ) TextFault)) → Type 0
TextWithin most len at (Ok (k, n)) = (k ≡ at + length_width) × (k + n ≤ len) × (n ≤ most)
TextWithin most len at (Err fault.Long) = Unit {0}
TextWithin most len at (Err (fault.Cut n)) = Unit {0}

module _ (l : Bytes) where
  pub text-within : (most at : ℕ) → TextWithin most (length l) at (text_at most l at)
  unfolding text_at
  text-within most at =
      let n : ℕ = nat_of (part at length_width l) in
      let start : ℕ = at + length_width in
      elim (le-or-lt start (length l)) [
        | inr h ↦ rw (lt-leb start (length l) h) tt
        | inl h ↦ elim (le-or-lt n most) [
          | inr g ↦ rw (le-leb start (length l) h, lt-leb n most g) tt
          | inl g ↦ elim (le-or-lt (start + n) (length l)) [
            | inr k ↦ rw (le-leb start (length l) h, le-leb n most g, lt-leb (start + n) (length l) k) tt
            | inl k ↦ rw (le-leb start (length l) h, le-leb n most g, le-leb (start + n) (length l) k) (refl, k, g)
          ]
        ]
      ]

  version-within : (at k n v m : ℕ) → v ≡ at + byte_width + length_width + n + length_width → k + n ≤ length l → n ≤ max_key → m ≤ max_value
      → Within (length l) at (version_at l k n v m)
  unfolding version_at
  version-within at k n v m a kn nk mv =
      let b : ℕ = nat_of (part (v + m + offset version_widths 1) byte_width l) in
      let behind : ℕ = v + m + total version_widths in
      elim (le-or-lt behind (length l)) [
        | inr h ↦ rw (lt-leb behind (length l) h) tt
        | inl h ↦ elim (le-or-lt b (status_byte Ttl)) [
          | inr g ↦ rw (le-leb behind (length l) h, lt-leb b (status_byte Ttl) g) tt
          | inl g ↦ rw (le-leb behind (length l) h, le-leb b (status_byte Ttl) g) (omega arith, h, (kn, omega arith, nk, mv), omega arith)
        ]
      ]

  value-within : (at k n : ℕ) → k ≡ at + byte_width + length_width → k + n ≤ length l → n ≤ max_key → Within (length l) at (value_at l k n)
  unfolding value_at
  value-within at k n a kn nk = go (text_at max_value l (k + n)) (text-within max_value (k + n))
    where
      go : (t : (Result (ℕ × ℕ) TextFault)) → TextWithin max_value (length l) (k + n) t → Within (length l) at (on_text (λ v m. version_at l k n v m) t)
      go (Ok (v, m)) w = version-within at k n v m (omega arith) kn nk w.2
      go (Err fault.Long) w = tt
      go (Err (fault.Cut i)) w = tt

  key-value-within : (at : ℕ) → Within (length l) at (key_value_at l at)
  unfolding key_value_at
  key-value-within at = go (text_at max_key l (at + byte_width)) (text-within max_key (at + byte_width))
    where
      go : (t : (Result (ℕ × ℕ) TextFault)) → TextWithin max_key (length l) (at + byte_width) t → Within (length l) at (on_text (λ k n. value_at l k n) t)
      go (Ok (k, n)) w = value-within at k n (omega arith) w.1 w.2
      go (Err fault.Long) w = tt
      go (Err (fault.Cut i)) w = tt

  node-within : (at : ℕ) → Within (length l) at (node_at l at)
  unfolding node_at
  node-within at = elim (le-or-lt (at + node_op_width) (length l)) [
    | inr h ↦ rw (lt-leb (at + node_op_width) (length l) h) tt
    | inl h ↦ rw (le-leb (at + node_op_width) (length l) h) (omega arith, h, tt, refl)
  ]

  max-within : (at : ℕ) → Within (length l) at (set_max_version_at l at)
  unfolding set_max_version_at
  max-within at = elim (le-or-lt (at + max_op_width) (length l)) [
    | inr h ↦ rw (lt-leb (at + max_op_width) (length l) h) tt
    | inl h ↦ rw (le-leb (at + max_op_width) (length l) h) (omega arith, h, tt, refl)
  ]

  tagged-within : (tag at : ℕ) → Within (length l) at (tagged_at tag l at)
  tagged-within zero at = node-within at
  tagged-within (suc zero) at = key-value-within at
  tagged-within (suc (suc zero)) at = max-within at
  tagged-within (suc (suc (suc n))) at = tt

  pub op-within : (at : ℕ) → Within (length l) at (op_at l at)
  unfolding op_at
  op-within at = elim (le-or-lt (at + byte_width) (length l)) [
    | inr h ↦ rw (lt-leb (at + byte_width) (length l) h) tt
    | inl h ↦ rw (le-leb (at + byte_width) (length l) h) (tagged-within (nat_of (part at byte_width l)) at)
  ]

-- where the operation ends
pub ends : (l : List ℕ) (at : ℕ) (o : Op) (next : ℕ) → op_at l at ≡ (Ok (o, next)) → (at < next) × (next ≤ length l)
ends l at o next e = let w : Within (length l) at (Ok (o, next)) = subst (Within (length l) at) e (op-within l at) in (w.0, w.1)
