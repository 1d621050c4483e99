-- A net whose hubs keep grids is a careful one: at every moment each row tells nothing that its peer has not. So it is safe, plain hubs too. Assumes nothing.
use Prim.Native.Nat.{ℕ, ◌-◌, ◌≤◌, ◌<◌}
use mathlib.Core.Bool.{Bool, true, false, false≢true, ◌&&◌}
use mathlib.Core.List.{List, [], ◌∷◌, ◌++◌}
use mathlib.Core.Logic.{◌⊎◌, inl, inr}
use mathlib.Core.Option.{Option, none, some}
use mathlib.Core.Path.{◌≡◌, ◌∙◌, ap, refl, subst, sym}
use native.Mathlib.Omega.{arith}
use lib.Dec.{eqb, leb, ltb}
use lib.ListN.{length, get_or}
use borrow.Author.Tests.{eqb-false, eqb-true, leb-true, ltb-true}
use Rattle.fields.specs.Blocks.{zeros}
use Rattle.fields.specs.Choice.{◌∈◌, pick}
use Rattle.fields.specs.Numbers.{Bytes}
use Rattle.fields.specs.Parts.{part, put}
use Rattle.fields.proofs.Choice.{all_from, and_left, and_right, in-cons, in-none}
use Rattle.fields.proofs.Parts.{part-put}
use Rattle.rules.specs.Digest.{DigestRead, Entries, digest_bytes, digest_of, fits_at, is_edition, read_digest, write_digest}
use Rattle.rules.specs.Apply.{Lawful}
use Rattle.rules.specs.Given.{Given, given}
use Rattle.rules.specs.Lent.{from_table, lent_digest}
use Rattle.rules.specs.Profile.{Kind}
use Rattle.rules.specs.Sizes.{numbers}
use Rattle.rules.specs.Table.{Table, among, node_of, rising}
use Rattle.rules.specs.Whole.{decode_whole}
use Rattle.std.specs.Prelude.{Err, Ok, Result}
use Rattle.rules.specs.declared.Refusal.{Refusal}
use Rattle.rules.specs.Results.{done}
use Rattle.rules.specs.declared.Refusal.TheVariants.{BadEdition, BadPeer, BadTable, NoPlace}
use Rattle.rules.proofs.Digests.{read-written}
use Rattle.profiles.proofs.Lawful.{kind-lawful}
use Rattle.rules.proofs.Obeys.{OkTable, among_in, facts-table}
use Rattle.grid.specs.Grid.{Grid, max_peers, new_grid, take_out, tell_row}
use Rattle.grid.specs.GridLayout.{decode_grid, encode_grid, valid_grid}
use Rattle.grid.specs.LentGrid.{lent_column_in, lent_take_out, lent_tell, tell_on, valid_both}
use Rattle.grid_kept.proofs.Encoded.{decode-encode}
use Rattle.grid_kept.proofs.Keeps.{new-sound, out-sound, tell-sound}
use Rattle.grid_kept.proofs.Sound.{Sound, valid-sound}
use Rattle.demand3.specs.Forms.{Carefully}
use Rattle.net.proofs.LentNet.{Same, begin-lent, one_profile}
use Rattle.net.proofs.Moments.{Moment, moment-begin, placed-in}
use Rattle.net.specs.LentNet.{lent_after, plan_in}
use Rattle.net.specs.Net.{Adding, Arriving, Beating, Computing, Dropping, Event, Net, NetSound, Offering, Plan, Removing, Restoring, Saving, Writing, after, begin, happen, placed}
use Rattle.net_careful.proofs.LentSafe.{after-lent}
use Rattle.net_careful.proofs.Safe.{Low, careful-safe, keeps-run, low-begin, max-is}
use Rattle.net_careful.proofs.Telling.{behind, digest-has}
use Rattle.net_careful.specs.Careful.{CarefulEvent, CarefulOver, CarefulRun, CarefulSafe, ToldBy, max_at, told_max}
use Rattle.net_watched.specs.Watched.{Act, Clearing, Digesting, Happening, Joining, TakingOut, Telling, Watch, WatchedSafe, Wrote, all_present, doing, eight_rows, events_in, events_of, grids_after, has_row, joins, kept_wrote, mild, told_grid, watch_begin, watched, with_grid, wrote_after}
use Rattle.net_watched.proofs.Columns.{joined}
use Rattle.net_watched.proofs.Rows.{out-flag, out-flags, out-other, tell-flag, tell-other, tell-own}
use Rattle.net_watched.proofs.ToldSmall.{told-gc-fits, told-max-fits}

-- ---- runs one behind the other

run-append : (plan : Plan) (ms : List ℕ) (es fs : List Event) (w : Net) → CarefulRun plan ms es w → CarefulRun plan ms fs (after plan es w) → CarefulRun plan ms (es ++ fs) w
unfolding CarefulRun after
run-append plan ms [] fs w c d = d
run-append plan ms (e ∷ es) fs w c d = (c.0, run-append plan ms es fs (happen plan e w) c.1 d)

after-append : (plan : Plan) (es fs : List Event) (w : Net) → after plan (es ++ fs) w ≡ after plan fs (after plan es w)
unfolding after
after-append plan [] fs w = refl
after-append plan (e ∷ es) fs w = after-append plan es fs (happen plan e w)

-- ---- a row that stands for a hub

found : (f : ℕ → ℕ) (y : ℕ) (ps : List ℕ) (g : Grid) → has_row f y ps g ≡ true → (p : ℕ) × (f p ≡ y) × (get_or g.present p 0 ≡ 1)
unfolding has_row
found f y [] g e = absurd (false≢true e)
found f y (p ∷ ps) g e = go (eqb (f p) y && eqb (get_or g.present p 0) 1) refl (found f y ps g) e
  where
    go : (b : Bool) → eqb (f p) y && eqb (get_or g.present p 0) 1 ≡ b → (has_row f y ps g ≡ true → (p : ℕ) × (f p ≡ y) × (get_or g.present p 0 ≡ 1)) → pick b true (has_row f y ps g) ≡ true → (p : ℕ) × (f p ≡ y) × (get_or g.present p 0 ≡ 1)
    go true q more h =
        (p, eqb-true (f p) y (and_left (eqb (f p) y) (eqb (get_or g.present p 0) 1) q), eqb-true (get_or g.present p 0) 1 (and_right (eqb (f p) y) (eqb (get_or g.present p 0) 1) q))
    go false q more h = more h

-- ---- what is known of a moment

module _ (owner : ℕ → ℕ) (kinds : ℕ → Kind) (peer : ℕ → ℕ → ℕ) (ms : List ℕ) where
  abbrev plan : Plan
  plan = plan_in owner kinds

  law : (x : ℕ) → Lawful (plan.ways x)
  law x = kind-lawful (kinds x)

  -- what a digest tells, the hub that wrote it has
  record WroteOf (y : ℕ) (v : Net) (d : Wrote) : Type 0 where
    left_out : List ℕ
    had : Table
    obeyed : OkTable had
    reads : read_digest d.edition d.bytes ≡ Entries (digest_of left_out had) []
    within : (i : ℕ) → max_at i had ≤ max_at i (v.hubs y)

  abbrev RowsTell : (gs : ℕ → Bytes) (v : Net) → Type 0
  RowsTell gs v = (x p i : ℕ) → get_or (decode_grid (gs x)).present p 0 ≡ 1 → told_max p i (decode_grid (gs x)) ≤ max_at i (v.hubs (peer x p))

  record Now (w : Watch) (v : Net) : Type 0 where
    same : Same owner kinds v w.net
    moment : Moment owner v
    lows : Low ms v
    rows : RowsTell w.grids v
    digests : (y : ℕ) (d : Wrote) → d ∈ w.wrote y → WroteOf y v d

  module _ (w : Watch) (v : Net) (n : Now w v) where
    -- the tables go on, and no max falls
    goes_on : (es : List Event) → CarefulRun plan ms es v → (gs : ℕ → Bytes) (ws : ℕ → List Wrote) → RowsTell gs v → ((y : ℕ) (d : Wrote) → d ∈ ws y → WroteOf y v d)
        → Now (record { net = lent_after owner es w.net; grids = gs; wrote = ws }) (after plan es v)
    goes_on es c gs ws rs ds =
        record {
          same = after-lent owner kinds ms es v w.net n.same.0 n.same.1 n.moment n.lows c;
          moment = (keeps-run plan law ms es v n.moment n.lows c).moment;
          lows = (keeps-run plan law ms es v n.moment n.lows c).lows;
          rows = λ x p i e. let a = rs x p i e in let b = up (peer x p) i in omega arith;
          digests =
              λ y d m.
              let o = ds y d m in
              record { left_out = o.left_out; had = o.had; obeyed = o.obeyed; reads = o.reads; within = λ i. let a = o.within i in let b = up y i in omega arith };
        }
      where
        up : (y i : ℕ) → max_at i (v.hubs y) ≤ max_at i ((after plan es v).hubs y)
        up y i =
            let a = (keeps-run plan law ms es v n.moment n.lows c).rise y i in
            let b = max-is i (v.hubs y) in
            let d = max-is i ((after plan es v).hubs y) in
            omega arith

    -- ---- the events

    mild-event : (e : Event) → mild ms e ≡ true → CarefulEvent ms e v
    mild-event (Writing x i k who c) q = among_in x ms q
    mild-event (Beating x i) q = among_in x ms q
    mild-event (Offering x i h) q = among_in x ms q
    mild-event (Removing x removal) q = absurd (false≢true q)
    mild-event (Adding x i) q = absurd (false≢true q)
    mild-event (Dropping x i) q = absurd (false≢true q)
    mild-event (Computing x edition digest excluded order mtu place l) q = among_in x ms q
    mild-event (Arriving x k now l) q = among_in x ms q
    mild-event (Saving x) q = among_in x ms q
    mild-event (Restoring x k) q = absurd (false≢true q)

    over-all : (x now grace : ℕ) → all_present (peer x) ms x (decode_grid (w.grids x)) ≡ true → CarefulOver ms x (Carefully (w.grids x) now grace) v
    over-all x now grace e y m other = go (eqb y x) refl (all_from (λ z. pick (eqb z x) true (has_row (peer x) z eight_rows (decode_grid (w.grids x)))) ms e y m)
      where
        go : (b : Bool) → eqb y x ≡ b → pick b true (has_row (peer x) y eight_rows (decode_grid (w.grids x))) ≡ true → ToldBy (v.hubs y) (decode_grid (w.grids x))
        go true q h = absurd (other (eqb-true y x q))
        go false q h =
            let r = found (peer x) y eight_rows (decode_grid (w.grids x)) h in
            record {
              peer = r.0;
              present = r.2;
              within = λ i. subst (λ (z : ℕ). told_max r.0 i (decode_grid (w.grids x)) ≤ max_at i (v.hubs z)) r.1 (n.rows x r.0 i r.2);
            }

    -- at most one event
    one : (b : Bool) (e : Event) → (b ≡ true → CarefulEvent ms e v) → CarefulRun plan ms (pick b (e ∷ []) []) v
    unfolding CarefulRun
    one true e f = (f refl, tt)
    one false e f = tt

    careful : (a : Act) → CarefulRun plan ms (events_of owner peer ms a w) v
    unfolding CarefulRun
    careful (Happening e) = one (mild ms e) e (mild-event e)
    careful (Digesting x edition excluded place d) = tt
    careful (Telling x p k) = tt
    careful (TakingOut x p) = tt
    careful (Joining x i) =
        one (joins owner peer ms x i w) (Adding x i) (λ q. among_in x ms (and_left (among x ms) (ltb i numbers && valid_both (w.grids x) (w.net.hubs x)) q))
    careful (Clearing x now grace) =
        one (among x ms && all_present (peer x) ms x (decode_grid (w.grids x))) (Removing x (Carefully (w.grids x) now grace))
        (λ q. (among_in x ms (and_left (among x ms) _ q), over-all x now grace (and_right (among x ms) _ q)))

    -- ---- the grids

    -- one hub's grid is another
    on-grid : (x : ℕ) (g : Bytes) → ((p i : ℕ) → get_or (decode_grid g).present p 0 ≡ 1 → told_max p i (decode_grid g) ≤ max_at i (v.hubs (peer x p))) → RowsTell (with_grid owner peer ms x g w.grids) v
    on-grid x g h z = go (eqb z x) refl
      where
        go : (b : Bool) → eqb z x ≡ b → (p i : ℕ) → get_or (decode_grid (pick b g (w.grids z))).present p 0 ≡ 1 → told_max p i (decode_grid (pick b g (w.grids z))) ≤ max_at i (v.hubs (peer z p))
        go true q p i e = subst (λ (k : ℕ). told_max p i (decode_grid g) ≤ max_at i (v.hubs (peer k p))) (sym (eqb-true z x q)) (h p i e)
        go false q p i e = n.rows z p i e

    module _ (x p : ℕ) where
      abbrev bytes : Bytes
      bytes = w.grids x

      abbrev g : Grid
      g = decode_grid (w.grids x)

      abbrev Fine : Bytes → Type 0
      Fine l = (q i : ℕ) → get_or (decode_grid l).present q 0 ≡ 1 → told_max q i (decode_grid l) ≤ max_at i (v.hubs (peer x q))

      stays : Fine bytes
      stays q i e = n.rows x q i e

      tells : (d : Wrote) → WroteOf (peer x p) v d → Fine (lent_tell p d.edition d.bytes (w.grids x)).lent
      unfolding lent_tell
      tells d o = go (valid_grid bytes) refl (ltb p max_peers) refl (read_digest d.edition d.bytes) o.reads
        where
          at : valid_grid bytes ≡ true → p < max_peers → Fine (encode_grid (tell_row p (digest_of o.left_out o.had) g))
          at valid low q i = subst (λ (y : Grid). get_or y.present q 0 ≡ 1 → told_max q i y ≤ max_at i (v.hubs (peer x q))) (sym is) (by (eqb q p) refl)
            where
              s : Sound g
              s = valid-sound bytes valid

              is : decode_grid (encode_grid (tell_row p (digest_of o.left_out o.had) g)) ≡ tell_row p (digest_of o.left_out o.had) g
              is =
                  decode-encode (tell_row p (digest_of o.left_out o.had) g)
                  (tell-sound g s p (digest_of o.left_out o.had) (told-gc-fits o.left_out o.had o.obeyed) (told-max-fits o.left_out o.had o.obeyed)).fits

              by : (b : Bool) → eqb q p ≡ b → get_or (tell_row p (digest_of o.left_out o.had) g).present q 0 ≡ 1
                  → told_max q i (tell_row p (digest_of o.left_out o.had) g) ≤ max_at i (v.hubs (peer x q))
              by true e h =
                  subst (λ (k : ℕ). told_max k i (tell_row p (digest_of o.left_out o.had) g) ≤ max_at i (v.hubs (peer x k))) (sym (eqb-true q p e))
                  (let a = tell-own g p (digest_of o.left_out o.had) (omega (arith, s.fits.maxes_fit.long, low)) i in
                  let b = digest-has o.left_out o.had i in
                  let c = o.within i in
                  omega arith)
              by false e h =
                  let other : q ≡ p → ⊥ = eqb-false q p e in
                  let a = tell-other g p (digest_of o.left_out o.had) q i other in
                  let b = n.rows x q i (sym (tell-flag g p (digest_of o.left_out o.had) q other) ∙ h) in
                  omega arith

          go : (b : Bool) → valid_grid bytes ≡ b → (c : Bool) → ltb p max_peers ≡ c → (r : DigestRead) → r ≡ Entries (digest_of o.left_out o.had) []
              → Fine (pick b (pick c (tell_on p r bytes) (given (Err BadPeer) bytes)) (given (Err BadTable) bytes)).lent
          go true e true f r q = subst (λ (k : DigestRead). Fine (tell_on p k bytes).lent) (sym q) (at e (ltb-true p max_peers f))
          go true e false f r q = stays
          go false e c f r q = stays

      told-grid : (o : Option Wrote) (k : ℕ) → placed k (w.wrote (peer x p)) ≡ o → Fine (told_grid owner peer ms p o (w.grids x))
      told-grid none k e = stays
      told-grid (some d) k e = tells d (n.digests (peer x p) d (placed-in k (w.wrote (peer x p)) e))

      taken_out : Fine (lent_take_out p (w.grids x)).lent
      unfolding lent_take_out
      taken_out = go (valid_grid bytes) refl (ltb p max_peers) refl
        where
          at : valid_grid bytes ≡ true → p < max_peers → Fine (encode_grid (take_out p g))
          at valid low q i = subst (λ (y : Grid). get_or y.present q 0 ≡ 1 → told_max q i y ≤ max_at i (v.hubs (peer x q))) (sym is) (by (eqb q p) refl)
            where
              s : Sound g
              s = valid-sound bytes valid

              is : decode_grid (encode_grid (take_out p g)) ≡ take_out p g
              is = decode-encode (take_out p g) (out-sound g s p).fits

              by : (b : Bool) → eqb q p ≡ b → get_or (take_out p g).present q 0 ≡ 1 → told_max q i (take_out p g) ≤ max_at i (v.hubs (peer x q))
              by true e h =
                  let a : get_or (take_out p g).present p 0 ≡ 0 = out-flag g p (omega (arith, s.fits.flags, low)) in
                  let b : get_or (take_out p g).present p 0 ≡ 1 = subst (λ (k : ℕ). get_or (take_out p g).present k 0 ≡ 1) (eqb-true q p e) h in
                  absurd (omega (arith, a, b))
              by false e h =
                  let other : q ≡ p → ⊥ = eqb-false q p e in
                  let a = out-other g p q i other in
                  let b = n.rows x q i (sym (out-flags g p q other) ∙ h) in
                  omega arith

          go : (b : Bool) → valid_grid bytes ≡ b → (c : Bool) → ltb p max_peers ≡ c
              → Fine (pick b (pick c (given done (encode_grid (take_out p g))) (given (Err BadPeer) bytes)) (given (Err BadTable) bytes)).lent
          go true e true f = at e (ltb-true p max_peers f)
          go true e false f = stays
          go false e c f = stays

    joined_in : (x i : ℕ) (b : Bool) → joins owner peer ms x i w ≡ b → (q k : ℕ) → get_or (decode_grid (pick b (lent_column_in i (w.grids x) (w.net.hubs x)).lent.grid (w.grids x))).present q 0 ≡ 1
        → told_max q k (decode_grid (pick b (lent_column_in i (w.grids x) (w.net.hubs x)).lent.grid (w.grids x))) ≤ max_at k (v.hubs (peer x q))
    joined_in x i false e q k h = n.rows x q k h
    joined_in x i true e q k h =
        let rest : ltb i numbers && valid_both (w.grids x) (w.net.hubs x) ≡ true = and_right (among x ms) (ltb i numbers && valid_both (w.grids x) (w.net.hubs x)) e in
        let less = joined (w.grids x) (w.net.hubs x) (and_right (ltb i numbers) (valid_both (w.grids x) (w.net.hubs x)) rest) i (ltb-true i numbers (and_left (ltb i numbers) (valid_both (w.grids x) (w.net.hubs x)) rest)) in
        let a = less.rows q k in
        let b = n.rows x q k (sym (less.flags q) ∙ h) in
        omega arith

    grids : (a : Act) → RowsTell (grids_after owner peer ms a w) v
    grids (Happening e) = n.rows
    grids (Digesting x edition excluded place d) = n.rows
    grids (Telling x p k) = on-grid x (told_grid owner peer ms p (placed k (w.wrote (peer x p))) (w.grids x)) (told-grid x p (placed k (w.wrote (peer x p))) k refl)
    grids (TakingOut x p) = on-grid x (lent_take_out p (w.grids x)).lent (taken_out x p)
    grids (Joining x i) =
        on-grid x (pick (joins owner peer ms x i w) (lent_column_in i (w.grids x) (w.net.hubs x)).lent.grid (w.grids x)) (joined_in x i (joins owner peer ms x i w) refl)
    grids (Clearing x now grace) = n.rows

    -- ---- the digests

    module _ (x edition : ℕ) (excluded : List ℕ) (place : ℕ) (d : Bytes) where
      abbrev t : Table
      t = v.hubs x

      abbrev AllOf : List Wrote → Type 0
      AllOf ws = (e : Wrote) → e ∈ ws → WroteOf x v e

      of-bytes : is_edition edition ≡ true → fits_at place (length (digest_bytes edition (digest_of excluded t))) d ≡ true
          → WroteOf x v (record { edition = edition; bytes = part place (length (digest_bytes edition (digest_of excluded t))) (put place (digest_bytes edition (digest_of excluded t)) d) })
      of-bytes is f =
          let b : Bytes = digest_bytes edition (digest_of excluded t) in
          let low = leb-true place (length d) (and_left (leb place (length d)) (leb (length b) (length d - place)) f) in
          let room = leb-true (length b) (length d - place) (and_right (leb place (length d)) (leb (length b) (length d - place)) f) in
          record {
            left_out = excluded;
            had = t;
            obeyed = (n.moment.tables x).obeyed;
            reads = ap (read_digest edition) (part-put place b d (omega arith)) ∙ read-written edition is excluded t (facts-table t (n.moment.tables x).obeyed);
            within = λ i. omega arith;
          }

      kept : AllOf (kept_wrote owner peer ms edition place (write_digest edition excluded place t d).lent (write_digest edition excluded place t d).answer (w.wrote x))
      unfolding write_digest
      kept = go (is_edition edition) refl (fits_at place (length (digest_bytes edition (digest_of excluded t))) d) refl
        where
          out : (a b : Bool) → Given (Result ℕ Refusal) Bytes
          out a b =
              pick a
              (pick b (given (Ok (length (digest_bytes edition (digest_of excluded t)))) (put place (digest_bytes edition (digest_of excluded t)) d)) (given (Err NoPlace) d))
              (given (Err BadEdition) d)

          go : (a : Bool) → is_edition edition ≡ a → (b : Bool) → fits_at place (length (digest_bytes edition (digest_of excluded t))) d ≡ b
              → AllOf (kept_wrote owner peer ms edition place (out a b).lent (out a b).answer (w.wrote x))
          go true q true f e m = at (in-cons m)
            where
              at : (e ≡ record { edition = edition; bytes = part place (length (digest_bytes edition (digest_of excluded t))) (put place (digest_bytes edition (digest_of excluded t)) d) }) ⊎ (e ∈ w.wrote x) → WroteOf x v e
              at (inl z) = subst (WroteOf x v) (sym z) (of-bytes q f)
              at (inr k) = n.digests x e k
          go true q false f e m = n.digests x e m
          go false q b f e m = n.digests x e m

      lent_is : lent_digest edition excluded place d (w.net.hubs x) ≡ write_digest edition excluded place t d
      unfolding from_table
      lent_is =
          ap (λ (b : Bool). pick b (write_digest edition excluded place (decode_whole (w.net.hubs x)).table d) (given (Err BadTable) d)) (n.same.0.hubs x).valid
          ∙ ap (λ (u : Net). write_digest edition excluded place (u.hubs x) d) n.same.1

      digested : AllOf (kept_wrote owner peer ms edition place (lent_digest edition excluded place d (w.net.hubs x)).lent (lent_digest edition excluded place d (w.net.hubs x)).answer (w.wrote x))
      digested = subst (λ (o : Given (Result ℕ Refusal) Bytes). AllOf (kept_wrote owner peer ms edition place o.lent o.answer (w.wrote x))) (sym lent_is) kept

    wrote : (a : Act) (y : ℕ) (d : Wrote) → d ∈ wrote_after owner peer ms a w y → WroteOf y v d
    wrote (Happening e) y d m = n.digests y d m
    wrote (Digesting x edition excluded place l) y d m = go (eqb y x) refl m
      where
        go : (b : Bool) → eqb y x ≡ b
            → d ∈ pick b (kept_wrote owner peer ms edition place (lent_digest edition excluded place l (w.net.hubs x)).lent (lent_digest edition excluded place l (w.net.hubs x)).answer (w.wrote x)) (w.wrote y)
            → WroteOf y v d
        go true q k = subst (λ (z : ℕ). WroteOf z v d) (sym (eqb-true y x q)) (digested x edition excluded place l d k)
        go false q k = n.digests y d k
    wrote (Telling x p k) y d m = n.digests y d m
    wrote (TakingOut x p) y d m = n.digests y d m
    wrote (Joining x i) y d m = n.digests y d m
    wrote (Clearing x now grace) y d m = n.digests y d m

    step : (a : Act) → Now (doing owner peer ms a w) (after plan (events_of owner peer ms a w) v)
    unfolding doing
    step a = goes_on (events_of owner peer ms a w) (careful a) (grids_after owner peer ms a w) (wrote_after owner peer ms a w) (grids a) (wrote a)

  -- ---- a run

  record Ran (acts : List Act) (w : Watch) (v : Net) : Type 0 where
    run : CarefulRun plan ms (events_in owner peer ms acts w) v
    now : Now (watched owner peer ms acts w) (after plan (events_in owner peer ms acts w) v)

  ran : (acts : List Act) (w : Watch) (v : Net) → Now w v → Ran acts w v
  unfolding watched events_in CarefulRun after
  ran [] w v n = record { run = tt; now = n }
  ran (a ∷ l) w v n =
      let es : List Event = events_of owner peer ms a w in
      let r = ran l (doing owner peer ms a w) (after plan es v) (step w v n a) in
      record {
        run = run-append plan ms es (events_in owner peer ms l (doing owner peer ms a w)) v (careful w v n a) r.run;
        now = subst (Now (watched owner peer ms l (doing owner peer ms a w))) (sym (after-append plan es (events_in owner peer ms l (doing owner peer ms a w)) v)) r.now;
      }

  start : Now (watch_begin kinds) begin
  unfolding rising new_grid zeros
  start =
      record {
        same = begin-lent owner kinds;
        moment = moment-begin owner;
        lows = low-begin ms;
        rows = λ x p i e. absurd (omega (arith, subst (λ (g : Grid). get_or g.present p 0 ≡ 1) is e, none-present p));
        digests = λ y d m. absurd (in-none m);
      }
    where
      is : decode_grid (encode_grid (new_grid [])) ≡ new_grid []
      is = decode-encode (new_grid []) (new-sound [] (omega arith) refl (λ n m. absurd (in-none m))).fits

      none-present : (p : ℕ) → get_or (new_grid []).present p 0 ≡ 0
      none-present p = behind max_peers p

  pub watched-careful : (acts : List Act) → CarefulRun (plan_in owner kinds) ms (events_in owner peer ms acts (watch_begin kinds)) begin
  watched-careful acts = (ran acts (watch_begin kinds) begin start).run

  pub watched-safe : WatchedSafe owner kinds peer ms
  watched-safe =
      record {
        at_every_moment =
            λ acts.
            let n = (r acts).now.same in
            record {
              valid = λ x. (n.0.hubs x).valid;
              kind_stays = λ x. (n.0.hubs x).kind_is;
              sound = subst (NetSound plan) (sym n.1) (safe.at_every_moment (es acts) (r acts).run);
              one_profile = one_profile owner kinds (watched owner peer ms acts (watch_begin kinds)).net n.0;
            };
        never_reset =
            λ acts b m ops q y z x k t e now h.
            let same = (r acts).now.same.1 in
            safe.never_reset (es acts) (r acts).run b (subst (λ (u : Net). b ∈ u.sent) same m) ops q y z x k t (subst (λ (u : Net). node_of y.number (u.hubs x) ≡ some t) same e) now h;
        seen_by_all =
            λ acts i x y a b k m e f.
            let same = (r acts).now.same.1 in
            safe.seen_by_all (es acts) (r acts).run i x y a b k m (subst (λ (u : Net). node_of i (u.hubs x) ≡ some k) same e) (subst (λ (u : Net). node_of i (u.hubs y) ≡ some m) same f);
        maxes_rise =
            λ acts more x i.
            let a = r acts in
            let b = ran more (watched owner peer ms acts (watch_begin kinds)) (after plan (es acts) begin) a.now in
            let up = safe.maxes_rise (es acts) (events_in owner peer ms more (watched owner peer ms acts (watch_begin kinds))) a.run b.run x i in
            omega (arith, up, ap (λ (u : Net). max_at i (u.hubs x)) a.now.same.1, ap (λ (u : Net). max_at i (u.hubs x)) b.now.same.1);
      }
    where
      safe : CarefulSafe plan ms
      safe = careful-safe plan law ms

      es : List Act → List Event
      es acts = events_in owner peer ms acts (watch_begin kinds)

      r : (acts : List Act) → Ran acts (watch_begin kinds) begin
      r acts = ran acts (watch_begin kinds) begin start
