-- `streams::fill` stays within the room and ends: each turn has fewer bytes to fill. What it put at the front is what it consumed. Assumes nothing.
use Rattle.std.proofs.Common.{rules, ◌≡◌, ℕ, List, ◌+◌, ◌≤◌, ◌++◌, ◌∙◌, ap, subst, sym, length, take, le_refl, drop_at, length-take-le}
use Rattle.std.proofs.lemmas.Slice.{take-put_mid_below}
use Rattle.std.proofs.KnownBytes.{Consumes-trans}
use Rattle.std.specs.Io.KnownBytes.{Consumes}
use borrow.Rule.Slice.PartMut.{put_mid, post_of}
use lib.Seq.{take-add, take-append-le}
use Rattle.streams.proofs.fill.Goals as goal

-- the front of a room, with n bytes of a read behind it
longer : (a k n : ℕ) (xs ys : List ℕ) → a ≤ length xs → n ≤ length ys → take (a + n) (put_mid a k xs ys) ≡ take a xs ++ take n ys
longer a k n xs ys h p =
    let after = post_of a k xs in
    take-add a n (put_mid a k xs ys)
    ∙ ap (λ l. l ++ take n (lib.ListN.drop a (put_mid a k xs ys))) (take-put_mid_below _ _ _ _ _ (le_refl _) h)
    ∙ ap (λ l. take a xs ++ take n l) (drop_at (take a xs) (ys ++ after) a (length-take-le a xs h))
    ∙ ap (λ l. take a xs ++ l) (take-append-le n ys after p)

pub loop-len-preserved : goal.loop-len-preserved
loop-len-preserved g c =
    let fits = c.in-Ok.ensures.bound.0 in
    (search rules, search rules, subst (Consumes _ _) (sym (longer _ _ _ _ _ c.loop-len.invariant.1 fits)) (Consumes-trans _ _ _ _ _ c.loop-len.invariant.2 c.in-Ok.ensures.bytes.0))
