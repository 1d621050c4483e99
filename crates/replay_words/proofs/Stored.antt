-- Laws of a list stored at the front of a lent one, where there is room and where there is none. Assumes nothing.
use Prim.Native.Nat.{ℕ, ◌≤◌, ◌<◌}
use mathlib.Core.Path.{◌≡◌, ap, sym}
use mathlib.Core.List.{List, ◌++◌}
use lib.ListN.{length, drop}
use native.Mathlib.Nat.{zero-add}
use borrow.Author.Tests.{le-leb, lt-leb}
use Rattle.std.specs.Prelude.{Some, None}
use Rattle.fields.specs.Parts.{put}
use Rattle.replay_words.specs.Reading.{counted, stored_in}

pub is-counted : (vs l : List ℕ) → length vs ≤ length l → Some (length vs) ≡ counted vs l
is-counted vs l h = rw (le-leb (length vs) (length l) h)

pub stored_front : (vs ws l : List ℕ) → length vs ≤ length l → ws ≡ vs → ws ++ drop (length vs) l ≡ stored_in vs l
unfolding put
stored_front vs ws l h e = rw (e, le-leb (length vs) (length l) h) (ap (λ (n : ℕ). vs ++ drop n l) (sym (zero-add (length vs))))

pub not-counted : (vs l : List ℕ) → length l < length vs → None ≡ counted vs l
not-counted vs l h = rw (lt-leb (length vs) (length l) h)

pub not-stored : (vs l : List ℕ) → length l < length vs → l ≡ stored_in vs l
not-stored vs l h = rw (lt-leb (length vs) (length l) h)
