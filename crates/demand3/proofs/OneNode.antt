-- One node at a publisher and at a follower. Whatever happens to it is one of a few steps; each step keeps the facts that demand 3 rests on, and
-- none makes a pair (last_gc, max) fall. A step knows nothing of tables, bytes or clocks: a delta that is sent is computed for any digest and cut
-- anywhere, a removal takes any scheduled records, a write is any decision about a key, and the follower takes deltas in any ways. Where its ways
-- let them come late, it may take any delta that was ever computed.
use Prim.Native.Nat.{◌≤◌, max, suc, ℕ}
use mathlib.Core.Bool.{Bool, false, true, true≢false}
use mathlib.Core.List.{List, [], ◌∷◌}
use mathlib.Core.Logic.{◌⊎◌, inl, inr}
use mathlib.Core.Option.{Option, none, some}
use mathlib.Core.Path.{◌∙◌, ◌≡◌, refl, subst, sym}
use native.Mathlib.Omega.{arith}
use lib.Dec.{ltb}
use lib.ListN.{length}
use borrow.Author.Tests.{ltb-false, ltb-true}
use Rattle.fields.proofs.Choice.{in-cons, in-none}
use Rattle.fields.specs.Choice.{◌∈◌}
use Rattle.rules.proofs.Records.{gc-rises}
use Rattle.rules.proofs.Sending.{MadeOf, node_delta}
use Rattle.rules.proofs.Tables.{taking}
use Rattle.rules.proofs.Taking.{Applies, Came, came, left, reset, took}
use Rattle.rules.specs.Apply.{Lawful, Ways, apply_node, outcome}
use Rattle.rules.specs.Delta.{NodeDelta}
use Rattle.rules.specs.Node.{Change, Decision, Give, KeyValue, Leave, Node, Rec, Refuse, act, fresh, last_gc_of, remove, with_heartbeat, write}
use Rattle.rules.specs.declared.Heartbeat.{Heartbeat}
use Rattle.demand3.proofs.Computing.{computed-honest}
use Rattle.demand3.proofs.Honest.{HonestDelta, HonestNode, delta-grows, fresh-honest, gc-within, node-beat, node-grows, node-remove}
use Rattle.demand3.proofs.Publisher.{Publisher, next-version, publisher-beat, publisher-fresh, publisher-remove, publisher-write}
use Rattle.demand3.proofs.Step.{node-apply}
use Rattle.demand3.specs.Demand3.{Rises}
use Rattle.demand3.specs.World.{given_after, given_by}

-- What the publisher gave, its node, the follower's, the delta on its way, and all that were ever computed. A delta that has no part for the node is
-- none of them.
pub record One : Type 0 where
  pub given : List KeyValue
  pub ours : Node
  pub theirs : Node
  pub flight : Option NodeDelta
  pub sent : List (Option NodeDelta)

abbrev pub fresh-one : One
fresh-one = record { given = []; ours = fresh; theirs = fresh; flight = none; sent = [] }

abbrev pub with_write : List KeyValue → Node → One → One
with_write h p w = record { given = h; ours = p; theirs = w.theirs; flight = w.flight; sent = w.sent }

abbrev pub with_ours : Node → One → One
with_ours p w = record { given = w.given; ours = p; theirs = w.theirs; flight = w.flight; sent = w.sent }

abbrev pub with_theirs : Node → One → One
with_theirs f w = record { given = w.given; ours = w.ours; theirs = f; flight = w.flight; sent = w.sent }

abbrev pub with_flight : Option NodeDelta → One → One
with_flight x w = record { given = w.given; ours = w.ours; theirs = w.theirs; flight = x; sent = w.sent }

-- one more was computed
abbrev pub with_sent : Option NodeDelta → One → One
with_sent x w = record { given = w.given; ours = w.ours; theirs = w.theirs; flight = w.flight; sent = x ∷ w.sent }

-- what computing makes of the node, if it makes a part at all
abbrev pub Makes : Node → Option NodeDelta → Type 0
Makes p none = Unit {0}
Makes p (some d) = MadeOf p d

pub data Step (ways : Ways) (w : One) : One → Type 0 where
  stays : Step ways w w
  we_write : (k : List ℕ) (x : Decision) → Step ways w (with_write (given_after k x w.ours w.given) (act k x w.ours) w)
  we_remove : (due : Rec → Bool) → Step ways w (with_ours (remove due w.ours) w)
  they_remove : (due : Rec → Bool) → Step ways w (with_theirs (remove due w.theirs) w)
  we_beat : (b : Heartbeat) → Step ways w (with_ours (with_heartbeat b w.ours) w)
  they_beat : (b : Heartbeat) → Step ways w (with_theirs (with_heartbeat b w.theirs) w)
  we_compute : (o : Option NodeDelta) → Makes w.ours o → Step ways w (with_sent o w)
  we_send : (o : Option NodeDelta) → Makes w.ours o → Step ways w (with_flight o (with_sent o w))
  lost : Step ways w (with_flight none w)
  they_take : (now : ℕ) → Step ways w (with_theirs (taking (apply_node ways now) w.flight w.theirs) w)
  comes_late : (now : ℕ) (o : Option NodeDelta) → ways.late ≡ true → o ∈ w.sent → Step ways w (with_theirs (taking (apply_node ways now) o w.theirs) w)

-- ---- the pair does not fall

pub rises-same : (n : Node) → Rises n n
rises-same n = inr (refl, omega arith)

pub rises-trans : (a b c : Node) → Rises a b → Rises b c → Rises a c
rises-trans a b c (inl x) (inl y) = inl (omega arith)
rises-trans a b c (inl x) (inr y) = inl (omega arith)
rises-trans a b c (inr x) (inl y) = inl (omega arith)
rises-trans a b c (inr x) (inr y) = inr (x.0 ∙ y.0, omega arith)

pub rises-remove : (due : Rec → Bool) (n : Node) → Rises n (remove due n)
unfolding remove
rises-remove due n = at (ltb n.last_gc (last_gc_of due n.last_gc n.recs)) refl
  where
    at : (b : Bool) → ltb n.last_gc (last_gc_of due n.last_gc n.recs) ≡ b → Rises n (remove due n)
    at true e = inl (ltb-true _ _ e)
    at false e = inr (let a = gc-rises due n.last_gc n.recs in let b = ltb-false n.last_gc (last_gc_of due n.last_gc n.recs) e in omega arith, omega arith)

pub rises-apply : (ways : Ways) (now : ℕ) (d : NodeDelta) (f : Node) → Rises f (apply_node ways now d f).node
unfolding outcome
rises-apply ways now d f = go _ (came ways now d f)
  where
    go : (x : Node) → Came ways now d f x → Rises f x
    go x left = rises-same f
    go x (reset r) = inl r.above_gc
    go x (took r) = inr (refl, let a = r.newer in omega arith)

rises-taking : (ways : Ways) (now : ℕ) (o : Option NodeDelta) (f : Node) → Rises f (taking (apply_node ways now) o f)
rises-taking ways now none f = rises-same f
rises-taking ways now (some d) f = rises-apply ways now d f

pub step-rises : (ways : Ways) (w x : One) → Step ways w x → Rises w.ours x.ours × Rises w.theirs x.theirs
unfolding act write
step-rises ways w x stays = (rises-same w.ours, rises-same w.theirs)
step-rises ways w x (we_write k (Refuse r)) = (rises-same w.ours, rises-same w.theirs)
step-rises ways w x (we_write k Leave) = (rises-same w.ours, rises-same w.theirs)
step-rises ways w x (we_write k (Give c)) = (inr (refl, omega arith), rises-same w.theirs)
step-rises ways w x (we_remove due) = (rises-remove due w.ours, rises-same w.theirs)
step-rises ways w x (they_remove due) = (rises-same w.ours, rises-remove due w.theirs)
step-rises ways w x (we_beat b) = (inr (refl, omega arith), rises-same w.theirs)
step-rises ways w x (they_beat b) = (rises-same w.ours, inr (refl, omega arith))
step-rises ways w x (we_compute o made) = (rises-same w.ours, rises-same w.theirs)
step-rises ways w x (we_send o made) = (rises-same w.ours, rises-same w.theirs)
step-rises ways w x lost = (rises-same w.ours, rises-same w.theirs)
step-rises ways w x (they_take now) = (rises-same w.ours, rises-taking ways now w.flight w.theirs)
step-rises ways w x (comes_late now o late m) = (rises-same w.ours, rises-taking ways now o w.theirs)

-- ---- the facts that every step keeps

-- of a delta that was ever computed, however old it is
abbrev pub Flies : List KeyValue → Node → Option NodeDelta → Type 0
Flies h p none = Unit {0}
Flies h p (some d) = HonestDelta h d × (d.last_gc ≤ p.last_gc)

-- its age, where it is applied before the next digest
abbrev Prompt : Node → Option NodeDelta → Type 0
Prompt f none = Unit {0}
Prompt f (some d) = f.last_gc ≤ max f.max d.last_gc

-- `bounded`: the follower's last_gc is above its max only by a reset, to what the publisher's last_gc then was, and that only rises. `prompt`: the age of
-- the delta on its way, as far as none comes late that is younger.
pub record Facts (ways : Ways) (w : One) : Type 0 where
  pub publisher : Publisher w.given w.ours
  pub follower : HonestNode w.given w.theirs
  pub bounded : w.theirs.last_gc ≤ max w.theirs.max w.ours.last_gc
  pub flies : Flies w.given w.ours w.flight
  pub known : (o : Option NodeDelta) → o ∈ w.sent → Flies w.given w.ours o
  pub prompt : ways.late ≡ false → Prompt w.theirs w.flight

pub facts-fresh : (ways : Ways) → Facts ways fresh-one
facts-fresh ways = record { publisher = publisher-fresh; follower = fresh-honest []; bounded = omega arith; flies = tt; known = λ o m. absurd (in-none m); prompt = λ e. tt }

-- last_gc stays within max and g, when a delta is taken
pub bounded-apply : (ways : Ways) (now : ℕ) (d : NodeDelta) (f : Node) (g : ℕ) → d.last_gc ≤ g → f.last_gc ≤ max f.max g → (apply_node ways now d f).node.last_gc ≤ max (apply_node ways now d f).node.max g
unfolding outcome
bounded-apply ways now d f g b u = go _ (came ways now d f)
  where
    go : (x : Node) → Came ways now d f x → x.last_gc ≤ max x.max g
    go x left = u
    go x (reset r) = omega arith
    go x (took r) = let a = r.newer in omega arith

module _ (ways : Ways) (law : Lawful ways) (w : One) (ok : Facts ways w) where
  abbrev h : List KeyValue
  h = w.given

  abbrev p : Node
  p = w.ours

  abbrev f : Node
  f = w.theirs

  -- what is known of a delta outlives a change of what was given, or of our node
  abbrev Stay : List KeyValue → Node → Type 0
  Stay l n = (x : Option NodeDelta) → Flies h p x → Flies l n x

  keeps-write : (k : List ℕ) (c : Change) → Facts ways (with_write (given_by k c p ∷ h) (write k c p) w)
  unfolding write
  keeps-write k c =
      record {
        publisher = publisher-write h p ok.publisher k c;
        follower = node-grows h (given_by k c p) next f ok.follower;
        bounded = ok.bounded;
        flies = flies w.flight ok.flies;
        known = λ o m. flies o (ok.known o m);
        prompt = ok.prompt;
      }
    where
      next : (given_by k c p).version ≡ suc (length h)
      next = next-version h p ok.publisher k c

      flies : Stay (given_by k c p ∷ h) (write k c p)
      flies none o = tt
      flies (some d) o = (delta-grows h (given_by k c p) next d o.0, o.1)

  keeps-ours : (due : Rec → Bool) → Facts ways (with_ours (remove due p) w)
  unfolding remove
  keeps-ours due =
      record {
        publisher = publisher-remove h p ok.publisher due;
        follower = ok.follower;
        bounded = let a = rises in let b = ok.bounded in omega arith;
        flies = flies w.flight ok.flies;
        known = λ o m. flies o (ok.known o m);
        prompt = ok.prompt;
      }
    where
      rises : p.last_gc ≤ last_gc_of due p.last_gc p.recs
      rises = gc-rises due p.last_gc p.recs

      flies : Stay h (remove due p)
      flies none o = tt
      flies (some d) o = (o.0, let a = rises in let b = o.1 in omega arith)

  keeps-theirs : (due : Rec → Bool) → Facts ways (with_theirs (remove due f) w)
  unfolding remove
  keeps-theirs due =
      record {
        publisher = ok.publisher;
        follower = node-remove h f ok.follower due;
        bounded = gc-within h f ok.follower due (max f.max p.last_gc) ok.bounded (omega arith);
        flies = ok.flies;
        known = ok.known;
        prompt = λ e. prompt w.flight (ok.prompt e);
      }
    where
      prompt : (x : Option NodeDelta) → Prompt f x → Prompt (remove due f) x
      prompt none o = tt
      prompt (some d) o = gc-within h f ok.follower due (max f.max d.last_gc) o (omega arith)

  keeps-our-beat : (b : Heartbeat) → Facts ways (with_ours (with_heartbeat b p) w)
  keeps-our-beat b =
      record {
        publisher = publisher-beat h p ok.publisher b;
        follower = ok.follower;
        bounded = ok.bounded;
        flies = flies w.flight ok.flies;
        known = λ o m. flies o (ok.known o m);
        prompt = ok.prompt;
      }
    where
      flies : Stay h (with_heartbeat b p)
      flies none o = tt
      flies (some d) o = o

  keeps-their-beat : (b : Heartbeat) → Facts ways (with_theirs (with_heartbeat b f) w)
  keeps-their-beat b =
      record {
        publisher = ok.publisher;
        follower = node-beat h f ok.follower b;
        bounded = ok.bounded;
        flies = ok.flies;
        known = ok.known;
        prompt = λ e. prompt w.flight (ok.prompt e);
      }
    where
      prompt : (x : Option NodeDelta) → Prompt f x → Prompt (with_heartbeat b f) x
      prompt none o = tt
      prompt (some d) o = o

  -- a new delta is honest and has the publisher's last_gc
  made-flies : (o : Option NodeDelta) → Makes p o → Flies h p o
  unfolding node_delta
  made-flies none x = tt
  made-flies (some d) x =
      subst (λ (y : NodeDelta). HonestDelta h y × (y.last_gc ≤ p.last_gc)) (sym x.delta-is)
      (computed-honest h ok.publisher.numbered p ok.publisher.node x.told_gc x.told-max x.count x.fits, omega arith)

  made-prompt : (o : Option NodeDelta) → Makes p o → Prompt f o
  unfolding node_delta
  made-prompt none x = tt
  made-prompt (some d) x = subst (λ (y : NodeDelta). f.last_gc ≤ max f.max y.last_gc) (sym x.delta-is) ok.bounded

  keeps-sent : (o : Option NodeDelta) → Flies h p o → Facts ways (with_sent o w)
  keeps-sent o x =
      record {
        publisher = ok.publisher;
        follower = ok.follower;
        bounded = ok.bounded;
        flies = ok.flies;
        known = λ y m. among-them y (in-cons m);
        prompt = ok.prompt;
      }
    where
      among-them : (y : Option NodeDelta) → (y ≡ o) ⊎ (y ∈ w.sent) → Flies h p y
      among-them y (inl e) = subst (Flies h p) (sym e) x
      among-them y (inr m) = ok.known y m

  keeps-flight : (o : Option NodeDelta) → Flies h p o → Prompt f o → Facts ways (with_flight o w)
  keeps-flight o x y =
      record { publisher = ok.publisher; follower = ok.follower; bounded = ok.bounded; flies = x; known = ok.known; prompt = λ e. y }

  -- its age, or the test where it may be old, is what the step asks for
  keeps-taken : (now : ℕ) (x : Option NodeDelta) → Flies h p x → (ways.late ≡ false → Prompt f x) → (ways.late ≡ false → Prompt (taking (apply_node ways now) x f) w.flight) → Facts ways (with_theirs (taking (apply_node ways now) x f) w)
  keeps-taken now none a b c = record { publisher = ok.publisher; follower = ok.follower; bounded = ok.bounded; flies = ok.flies; known = ok.known; prompt = c }
  keeps-taken now (some d) a b c =
      record {
        publisher = ok.publisher;
        follower = node-apply h ok.publisher.numbered now d a.0 f ok.follower ways (λ r. reaches r ways.late refl);
        bounded = bounded-apply ways now d f p.last_gc a.1 ok.bounded;
        flies = ok.flies;
        known = ok.known;
        prompt = c;
      }
    where
      reaches : Applies ways now d f → (late : Bool) → ways.late ≡ late → f.last_gc ≤ max f.max (max d.last_gc d.max)
      reaches r true e = law.safe e f.last_gc f.max d.last_gc d.max r.let-in
      reaches r false e = let y = b e in omega arith

  prompt-taken : (now : ℕ) (x : Option NodeDelta) → Prompt f x → Prompt (taking (apply_node ways now) x f) x
  prompt-taken now none b = tt
  prompt-taken now (some d) b = bounded-apply ways now d f d.last_gc (omega arith) b

pub step_keeps : (ways : Ways) → Lawful ways → (w x : One) → Step ways w x → Facts ways w → Facts ways x
unfolding act
step_keeps ways law w x stays ok = ok
step_keeps ways law w x (we_write k (Refuse r)) ok = ok
step_keeps ways law w x (we_write k Leave) ok = ok
step_keeps ways law w x (we_write k (Give c)) ok = keeps-write ways law w ok k c
step_keeps ways law w x (we_remove due) ok = keeps-ours ways law w ok due
step_keeps ways law w x (they_remove due) ok = keeps-theirs ways law w ok due
step_keeps ways law w x (we_beat b) ok = keeps-our-beat ways law w ok b
step_keeps ways law w x (they_beat b) ok = keeps-their-beat ways law w ok b
step_keeps ways law w x (we_compute o made) ok = keeps-sent ways law w ok o (made-flies ways law w ok o made)
step_keeps ways law w x (we_send o made) ok =
    keeps-flight ways law (with_sent o w) (keeps-sent ways law w ok o (made-flies ways law w ok o made)) o (made-flies ways law w ok o made) (made-prompt ways law w ok o made)
step_keeps ways law w x lost ok = keeps-flight ways law w ok none tt tt
step_keeps ways law w x (they_take now) ok = keeps-taken ways law w ok now w.flight ok.flies ok.prompt (λ e. prompt-taken ways law w ok now w.flight (ok.prompt e))
step_keeps ways law w x (comes_late now o late m) ok =
    keeps-taken ways law w ok now o (ok.known o m) (λ e. absurd (true≢false (sym late ∙ e))) (λ e. absurd (true≢false (sym late ∙ e)))
