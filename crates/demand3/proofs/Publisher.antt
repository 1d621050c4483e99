-- The publisher's node beside all that it gave to its keys: an honest node that has got to the last version given. Each write, each removal and
-- each heartbeat keeps this. And what demand 3 claims of the publisher's node and any honest node beside it.
use Prim.Native.Nat.{◌+◌, ◌<◌, ◌≤◌, suc, ℕ}
use mathlib.Core.Bool.{Bool, false≢true}
use mathlib.Core.List.{List, [], ◌∷◌}
use mathlib.Core.Logic.{◌⊎◌, inl, inr}
use mathlib.Core.Path.{◌∙◌, ◌≡◌, ap, refl, subst, sym}
use native.Mathlib.Omega.{arith}
use lib.ListN.{length}
use Rattle.fields.proofs.Choice.{in-cons}
use Rattle.fields.specs.Choice.{◌∈◌, here, later}
use Rattle.rules.proofs.Records.{key_of, sorted-store, store-from, store-new, store-old}
use Rattle.rules.specs.Node.{Change, KeyValue, Node, Rec, fresh, remove, scheduled, store, with_heartbeat, write}
use Rattle.rules.specs.declared.Heartbeat.{Heartbeat}
use Rattle.rules.specs.declared.Status.TheVariants.{Set}
use Rattle.demand3.proofs.History.{Numbered, numbered-grows, numbered-none}
use Rattle.demand3.proofs.Honest.{Current, Honest, HonestNode, Removed, fresh-honest, node-beat, node-remove}
use Rattle.demand3.specs.Demand3.{Claims, Holds, Last, reach}
use Rattle.demand3.specs.World.{given_by}

pub record Publisher (h : List KeyValue) (p : Node) : Type 0 where
  pub numbered : Numbered h
  pub node : HonestNode h p
  pub top : p.max ≡ length h

pub publisher-fresh : Publisher [] fresh
publisher-fresh = record { numbered = numbered-none; node = fresh-honest []; top = refl }

-- a node that has got to the last version given holds of each key what it was given last
pub all-current : (h : List KeyValue) (n : Node) → Numbered h → HonestNode h n → n.max ≡ length h → (s : KeyValue) → Holds n s → Last h s
all-current h n num ok top s x = at (ok.honest.current s x)
  where
    at : Current h (reach n.last_gc n.max) s → Last h s
    at (inl l) = l
    at (inr y) = let a = y.above in let b = num.high y.kv y.told in absurd (omega arith)

module _ (h : List KeyValue) (p : Node) (ok : Publisher h p) where
  pub next-version : (k : List ℕ) (c : Change) → (given_by k c p).version ≡ suc (length h)
  next-version k c = let a = ok.top in omega arith

  module _ (k : List ℕ) (c : Change) where
    abbrev w : KeyValue
    w = given_by k c p

    abbrev written : Rec
    written = record { kv = w; start = c.start }

    abbrev hon : Honest h 0 p.last_gc p.max (Holds p)
    hon = ok.node.honest

    pub publisher-write : Publisher (w ∷ h) (write k c p)
    unfolding write
    publisher-write =
        record {
          numbered = numbered-grows h w (next-version k c) ok.numbered;
          node =
              record {
                sorted = sorted-store _ _ ok.node.sorted;
                honest =
                    record {
                      gc_low = let a = hon.gc_low in omega arith;
                      max-low = let a = ok.top in omega arith;
                      told = λ s x. subst (λ (y : KeyValue). y ∈ w ∷ h) x.2 (told x.0 (from x));
                      within = λ s x. subst (λ (y : KeyValue). y.version ≤ p.max + 1) x.2 (within x.0 (from x));
                      current = λ s x. inl (subst (Last (w ∷ h)) x.2 (last x.0 (from x)));
                      brings = λ s m l a b. brings s (in-cons m) l a;
                    };
              };
          top = let a = ok.top in omega arith;
        }
      where
        Has : KeyValue → Type 0
        Has s = (r : Rec) × (r ∈ store written p.recs) × (r.kv ≡ s)

        -- the new record, or one of another key
        From : Rec → Type 0
        From r = (r ≡ written) ⊎ ((r ∈ p.recs) × (key_of r ≡ k → ⊥))

        from : {s : KeyValue} (x : Has s) → From x.0
        from x = store-from _ _ ok.node.sorted x.1

        told : (r : Rec) → From r → r.kv ∈ w ∷ h
        told r (inl e) = here (ap (λ (y : Rec). y.kv) e)
        told r (inr m) = later (hon.told r.kv (r, m.0, refl))

        within : (r : Rec) → From r → r.kv.version ≤ p.max + 1
        within r (inl e) = let a : r.kv.version ≡ p.max + 1 = ap (λ (y : Rec). y.kv.version) e in omega arith
        within r (inr m) = let a = hon.within r.kv (r, m.0, refl) in omega arith

        last : (r : Rec) → From r → Last (w ∷ h) r.kv
        last r (inl e) t n q = at (in-cons n)
          where
            at : (t ≡ w) ⊎ (t ∈ h) → t.version ≤ r.kv.version
            at (inl f) = let a : r.kv.version ≡ t.version = ap (λ (y : Rec). y.kv.version) e ∙ sym (ap (λ (y : KeyValue). y.version) f) in omega arith
            at (inr m) =
                let a : r.kv.version ≡ p.max + 1 = ap (λ (y : Rec). y.kv.version) e in
                let b = ok.numbered.high t m in
                let d = ok.top in
                omega arith
        last r (inr m) t n q = at (in-cons n)
          where
            at : (t ≡ w) ⊎ (t ∈ h) → t.version ≤ r.kv.version
            at (inl f) = absurd (m.1 (sym q ∙ ap (λ (y : KeyValue). y.key) f))
            at (inr o) = all-current h p ok.numbered ok.node ok.top r.kv (r, m.0, refl) t o q

        brings : (s : KeyValue) → (s ≡ w) ⊎ (s ∈ h) → Last (w ∷ h) s → 0 < s.version → Has s ⊎ Removed p.last_gc s
        brings s (inl e) l a = inl (written, store-new _ _, sym e)
        brings s (inr m) l a = at (hon.brings s m (λ t n. l t (later n)) a (let b = high in let d = ok.top in omega arith))
          where
            high : s.version ≤ length h
            high = ok.numbered.high s m

            other : s.key ≡ k → ⊥
            other e = let b = l w (here refl) (sym e) in let d = high in let f = ok.top in omega arith

            at : Holds p s ⊎ Removed p.last_gc s → Has s ⊎ Removed p.last_gc s
            at (inl x) = inl (x.0, store-old written x.1 (λ q. other (ap (λ (y : KeyValue). y.key) (sym x.2) ∙ q)), x.2)
            at (inr x) = inr x

  -- any removal of scheduled records
  pub publisher-remove : (due : Rec → Bool) → Publisher h (remove due p)
  unfolding remove
  publisher-remove due = record { numbered = ok.numbered; node = node-remove h p ok.node due; top = ok.top }

  pub publisher-beat : (b : Heartbeat) → Publisher h (with_heartbeat b p)
  publisher-beat b = record { numbered = ok.numbered; node = node-beat h p ok.node b; top = ok.top }

-- ---- the claims

-- of two honest nodes that have got to the last version given, each holds the Set records of the other
pub same-sets : (h : List KeyValue) (a b : Node) → Numbered h → HonestNode h a → HonestNode h b → a.max ≡ length h → b.max ≡ length h → (s : KeyValue) → s.status ≡ Set → Holds a s → Holds b s
same-sets h a b num x y i j s q m =
    let told = x.honest.told s m in
    at (y.honest.brings s told (all-current h a num x i s m) (num.low s told) (let c = num.high s told in omega arith))
  where
    at : Holds b s ⊎ Removed b.last_gc s → Holds b s
    at (inl z) = z
    at (inr z) = absurd (false≢true (sym (ap scheduled q) ∙ z.0))

pub claims-of : (h : List KeyValue) (p f : Node) → Publisher h p → HonestNode h f → Claims h p f
claims-of h p f own ok =
    record {
      never_ahead = let a = own.top in let b = ok.honest.max-low in omega arith;
      same_set = λ e s q. (same-sets h p f num own.node ok own.top (e ∙ own.top) s q, same-sets h f p num ok own.node (e ∙ own.top) own.top s q);
      last_given = λ e s x. (ok.honest.told s x, all-current h f num ok (e ∙ own.top) s x);
    }
  where
    num : Numbered h
    num = own.numbered
