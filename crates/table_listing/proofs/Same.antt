-- What stands at the front of two equal texts is equal, and so is what stands behind it: of a name, a number, a key or a value, a word for a status, a mode or
-- a profile, a line, and of lines one behind the other. Assumes nothing.
use Prim.Native.Nat.{ℕ, ◌<◌, ◌≤◌}
use mathlib.Core.Path.{◌≡◌, refl, ap, ap₂, sym, ◌∙◌, subst}
use mathlib.Core.List.{List, [], ◌∷◌, ◌++◌, append_assoc}
use lib.Dec.{eqb}
use lib.ListN.{length, drop, get_or}
use lib.Seq.{drop_at}
use Rattle.fields.specs.Choice.{◌∈◌, here, later, pick}
use Rattle.fields.specs.Blocks.{flat}
use Rattle.fields.specs.Numbers.{AreBytes, Bytes}
use Rattle.rules.specs.Delta.{KeyValueOp, SetMaxVersionOp}
use Rattle.rules.specs.Listing.{decimal, shown_bytes, status_text}
use Rattle.rules.specs.Node.{KeyValue}
use Rattle.rules.specs.Sizes.{numbers}
use Rattle.rules.specs.declared.Mode.{Mode}
use Rattle.rules.specs.declared.Mode.TheVariants.{Plain, Fenced, Guarded}
use Rattle.rules.specs.declared.Profile.{Profile}
use Rattle.rules.specs.declared.Profile.TheVariants.{Free, Meter, Shared}
use Rattle.rules.specs.declared.Status.{Status}
use Rattle.rules.specs.declared.Status.TheVariants.{Set, Delete, Ttl}
use Rattle.listing_text.specs.Texts.{named, numbered}
use Rattle.listing_read.specs.Unlist.{Line, LineRead, number_form, printed, text_form}
use Rattle.listing_read.proofs.Pieces.{Stops, number-readable, printed-read, text-readable}
use Rattle.table_listing.specs.TableListing.{mode_text, profile_text}

-- the same text in front
pub cancel : (a x y : Bytes) → a ++ x ≡ a ++ y → x ≡ y
cancel a x y e = sym (drop_at a x (length a) refl) ∙ ap (drop (length a)) e ∙ drop_at a y (length a) refl

-- the first of two pieces, and all else behind it
pub regroup : (a b x c d y : Bytes) → (a ++ b) ++ x ≡ (c ++ d) ++ y → a ++ (b ++ x) ≡ c ++ (d ++ y)
regroup a b x c d y e = sym (append_assoc a b x) ∙ e ∙ append_assoc c d y

-- ---- numbers, keys and values

-- what a line would tell of one alone
abbrev tell : (n : ℕ) (l : Bytes) → LineRead
tell n l = Line (SetMaxVersionOp n) l

abbrev tell_text : (t : Bytes) (l : Bytes) → LineRead
tell_text t l = Line (KeyValueOp (record { key = t; value = []; version = 0; status = Set })) l

number-told : (n m : ℕ) (x y : Bytes) → tell n x ≡ tell m y → (n ≡ m) × (x ≡ y)
number-told n m x y e = (cc, cc)

text-told : (s t x y : Bytes) → tell_text s x ≡ tell_text t y → (s ≡ t) × (x ≡ y)
text-told s t x y e =
    let kv : (k l : Bytes) → Type 0 = λ k l. ◌≡◌ {A = KeyValue} (record { key = k; value = []; version = 0; status = Set }) (record { key = l; value = []; version = 0; status = Set }) in
    let same : kv s t = cc in
    (ap (λ (r : KeyValue). r.key) same, cc)

-- nothing behind a number may be a digit
pub numbered-same : (name : Bytes) (n m : ℕ) (x y : Bytes) → n < numbers → m < numbers → Stops number_form.within x → Stops number_form.within y
    → numbered name n ++ x ≡ numbered name m ++ y → (n ≡ m) × (x ≡ y)
numbered-same name n m x y h g p q e =
    let bare : decimal n ++ x ≡ decimal m ++ y = cancel name _ _ (regroup name (decimal n) x name (decimal m) y e) in
    number-told n m x y
    (sym (printed-read number_form n tell x (number-readable n h) p) ∙ ap (printed number_form tell) bare ∙ printed-read number_form m tell y (number-readable m g) q)

-- nothing behind a key or a value may be shown
pub named-same : (name : Bytes) (most : ℕ) (s t x y : Bytes) → AreBytes s → AreBytes t → length s ≤ most → length t ≤ most → Stops (text_form most).within x
    → Stops (text_form most).within y → named name s ++ x ≡ named name t ++ y → (s ≡ t) × (x ≡ y)
named-same name most s t x y b c h g p q e =
    let bare : shown_bytes s ++ x ≡ shown_bytes t ++ y = cancel name _ _ (regroup name (shown_bytes s) x name (shown_bytes t) y e) in
    text-told s t x y
    (sym (printed-read (text_form most) s tell_text x (text-readable most s b h) p)
    ∙ ap (printed (text_form most) tell_text) bare
    ∙ printed-read (text_form most) t tell_text y (text-readable most t c g) q)

-- ---- words

-- a word that tells by itself what it stands for
word_same : {A : Type 0} (word : A → Bytes) (told : Bytes → A) → ((a : A) (x : Bytes) → told (word a ++ x) ≡ a) → (a b : A) (x y : Bytes)
    → word a ++ x ≡ word b ++ y → (a ≡ b) × (x ≡ y)
word_same word told back a b x y e =
    let p : a ≡ b = sym (back a x) ∙ ap told e ∙ back b y in
    (p, cancel (word b) x y (ap (λ c. word c ++ x) (sym p) ∙ e))

pub status-same : (s t : Status) (x y : Bytes) → status_text s ++ x ≡ status_text t ++ y → (s ≡ t) × (x ≡ y)
status-same = word_same (λ s. status_text s) told back
  where
    told : Bytes → Status
    told l = pick (eqb (get_or l 0 0) 115) Set (pick (eqb (get_or l 0 0) 100) Delete Ttl)

    back : (s : Status) (x : Bytes) → told (status_text s ++ x) ≡ s
    back Set x = refl
    back Delete x = refl
    back Ttl x = refl

pub mode-same : (m n : Mode) (x y : Bytes) → mode_text m ++ x ≡ mode_text n ++ y → (m ≡ n) × (x ≡ y)
mode-same = word_same (λ m. mode_text m) told back
  where
    told : Bytes → Mode
    told l = pick (eqb (get_or l 5 0) 112) Plain (pick (eqb (get_or l 5 0) 102) Fenced Guarded)

    back : (m : Mode) (x : Bytes) → told (mode_text m ++ x) ≡ m
    back Plain x = refl
    back Fenced x = refl
    back Guarded x = refl

pub profile-same : (p q : Profile) (x y : Bytes) → profile_text p ++ x ≡ profile_text q ++ y → (p ≡ q) × (x ≡ y)
profile-same = word_same (λ p. profile_text p) told back
  where
    told : Bytes → Profile
    told l = pick (eqb (get_or l 9 0) 102) Free (pick (eqb (get_or l 9 0) 109) Meter Shared)

    back : (p : Profile) (x : Bytes) → told (profile_text p ++ x) ≡ p
    back Free x = refl
    back Meter x = refl
    back Shared x = refl

-- ---- lines one behind the other

-- the byte that a text begins with
abbrev pub opening : Bytes → ℕ
opening l = get_or l 0 0

-- All lines begin with the same byte, and what stands behind them does not. A line may ask something of what stands behind it, which every line grants.
module _ {A : Type 0} (line : A → Bytes) (mark : ℕ) (Ok : A → Type 0) (Behind : Bytes → Type 0)
    (opens : (a : A) (x : Bytes) → opening (line a ++ x) ≡ mark) (grants : (a : A) (x : Bytes) → Behind (line a ++ x))
    (same : (a b : A) (x y : Bytes) → Ok a → Ok b → Behind x → Behind y → line a ++ x ≡ line b ++ y → (a ≡ b) × (x ≡ y)) where
  behind : (us : List A) (x : Bytes) → Behind x → Behind (flat line us ++ x)
  unfolding flat
  behind [] x f = f
  behind (a ∷ us) x f = subst Behind (sym (append_assoc (line a) (flat line us) x)) (grants a (flat line us ++ x))

  opened : (a : A) (us : List A) (x : Bytes) → opening (flat line (a ∷ us) ++ x) ≡ mark
  unfolding flat
  opened a us x = ap opening (append_assoc (line a) (flat line us) x) ∙ opens a (flat line us ++ x)

  pub lines_same : (us vs : List A) (x y : Bytes) → ((a : A) → a ∈ us → Ok a) → ((b : A) → b ∈ vs → Ok b) → Behind x → Behind y
      → (opening x ≡ mark → ⊥) → (opening y ≡ mark → ⊥) → flat line us ++ x ≡ flat line vs ++ y → (us ≡ vs) × (x ≡ y)
  unfolding flat
  lines_same [] [] x y oa ob f g nx ny e = (refl, e)
  lines_same [] (b ∷ vs) x y oa ob f g nx ny e = absurd (nx (ap opening e ∙ opened b vs y))
  lines_same (a ∷ us) [] x y oa ob f g nx ny e = absurd (ny (sym (ap opening e) ∙ opened a us x))
  lines_same (a ∷ us) (b ∷ vs) x y oa ob f g nx ny e =
      let p =
      same a b (flat line us ++ x) (flat line vs ++ y) (oa a (here refl)) (ob b (here refl)) (behind us x f) (behind vs y g)
      (regroup (line a) (flat line us) x (line b) (flat line vs) y e) in
      let q = lines_same us vs x y (λ c m. oa c (later m)) (λ c m. ob c (later m)) f g nx ny p.1 in
      (ap₂ (λ (c : A) (cs : List A). c ∷ cs) p.0 q.0, q.1)
