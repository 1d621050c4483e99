-- How a net of lent bytes ends: its tables go as those of the net of tables (net: LentNet), so that the laws of the rounds are laws of the bytes.
use Prim.Native.Nat.{◌*◌, ◌+◌, ◌<◌, ◌≤◌, suc, ℕ}
use mathlib.Core.Bool.{true}
use mathlib.Core.List.{List, [], ◌∷◌}
use mathlib.Core.Option.{some}
use mathlib.Core.Path.{◌∙◌, ◌≡◌, ap, refl, subst, sym}
use lib.ListN.{length}
use Rattle.fields.specs.Choice.{◌∈◌}
use Rattle.net.proofs.LentNet.{Good, after-lent, lent-run, ready}
use Rattle.net.proofs.Moments.{Moment, moment-begin, moments}
use Rattle.net.specs.LentNet.{LentNet, lent_after, lent_begin, plan_in, tables_in}
use Rattle.net.specs.Net.{Event, Net, Plan, after, begin}
use Rattle.net_closing.proofs.Crossing.{crossing-closes}
use Rattle.net_closing.proofs.Ends.{static-closes}
use Rattle.net_closing.proofs.Owner.{owner-closes}
use Rattle.net_closing.proofs.Paths.{fed-closes}
use Rattle.net_closing.proofs.Rounds.{tables-close}
use Rattle.net_closing.specs.Closing.{Closed, Fed, FedIn, Heard, HeardWhole, Least, Local, LocalAll, Piece, Pieces, Rounds, Steps, after_all, calm, every, lent_after_all, owner_removes, runs_of, senders_in, settled}
use Rattle.rules.proofs.Keeps.{guarded-least}
use Rattle.rules.specs.Apply.{ways_in}
use Rattle.rules.specs.Node.{Node}
use Rattle.rules.specs.Table.{node_of}
use Rattle.rules.specs.Profile.{Kind, kind}
use Rattle.rules.specs.declared.Mode.TheVariants.{Guarded}
use Rattle.rules.specs.declared.Profile.{Profile}

-- a guarded table has the least test, in any profile
pub guarded-has : (p : Profile) → Least (ways_in (kind Guarded p))
guarded-has p = guarded-least

module _ (owner : ℕ → ℕ) (kinds : ℕ → Kind) (late : (x : ℕ) → (ways_in (kinds x)).late ≡ true) where
  abbrev plan : Plan
  plan = plan_in owner kinds

  moment : (es : List Event) → Moment owner (after plan es begin)
  moment es = moments plan (ready owner kinds late) es begin (moment-begin owner)

  all-lent : (ess : List (List Event)) (l : LentNet) → Good owner kinds l → Moment owner (tables_in l) → tables_in (lent_after_all owner ess l) ≡ after_all plan ess (tables_in l)
  unfolding lent_after_all after_all
  all-lent [] l g ok = refl
  all-lent (es ∷ ess) l g ok =
      let r = after-lent owner kinds late es l g ok in
      all-lent ess (lent_after owner es l) r.0 (subst (Moment owner) (sym r.1) (moments plan (ready owner kinds late) es (tables_in l) ok)) ∙ ap (after_all plan ess) r.1

  -- the tables in the bytes after a run, and after rounds
  run_is : (es : List Event) → tables_in (lent_after owner es (lent_begin kinds)) ≡ after plan es begin
  run_is es = (lent-run owner kinds late es).1

  pub rounds-are : (es : List Event) (ess : List (List Event)) → tables_in (lent_after_all owner ess (lent_after owner es (lent_begin kinds))) ≡ after_all plan ess (after plan es begin)
  rounds-are es ess =
      all-lent ess (lent_after owner es (lent_begin kinds)) (lent-run owner kinds late es).0 (subst (Moment owner) (sym (run_is es)) (moment es)) ∙ ap (after_all plan ess) (run_is es)

  -- two rounds for each step, where every hub is guarded
  pub lent-tables-close : ((x : ℕ) → Least (ways_in (kinds x))) → (es : List Event) (i : ℕ) (hears : (x y : ℕ) → Type 0) (ess : List (List Event))
      → Rounds plan (calm i) (HeardWhole plan i) hears ess (tables_in (lent_after owner es (lent_begin kinds)))
      → (k : ℕ)
      → k + k ≤ length ess
      → (x : ℕ)
      → Steps hears (owner i) k x
      → Closed plan i x (tables_in (lent_after_all owner ess (lent_after owner es (lent_begin kinds))))
  lent-tables-close least es i hears ess rs k l x t =
      subst (Closed plan i x) (sym (rounds-are es ess))
      (tables-close plan (ready owner kinds late) least es i hears ess (subst (Rounds plan (calm i) (HeardWhole plan i) hears ess) (run_is es) rs) k l x t)

  -- twice, at any two moments, from a hub that was fed before, where every hub is guarded and the graph changes
  pub lent-fed-closes : ((x : ℕ) → Least (ways_in (kinds x))) → (es : List Event) (i : ℕ) (ps : List Piece)
      → Pieces plan i ps (tables_in (lent_after owner es (lent_begin kinds)))
      → (x : ℕ)
      → Fed (owner i) x ps
      → Closed plan i x (tables_in (lent_after_all owner (runs_of ps) (lent_after owner es (lent_begin kinds))))
  lent-fed-closes least es i ps a x f =
      subst (Closed plan i x) (sym (rounds-are es (runs_of ps)))
      (fed-closes plan (ready owner kinds late) least es i ps (subst (Pieces plan i ps) (run_is es) a) x f)

  -- by exchanges that may cross
  pub lent-crossing-closes : ((x : ℕ) → Least (ways_in (kinds x))) → (es : List Event) (i : ℕ) (fs : List Event)
      → every (calm i) fs ≡ true
      → (x : ℕ)
      → FedIn plan i (owner i) (tables_in (lent_after owner es (lent_begin kinds))) x fs
      → Closed plan i x (tables_in (lent_after owner fs (lent_after owner es (lent_begin kinds))))
  lent-crossing-closes least es i fs c x f =
      subst (Closed plan i x) (sym again)
      (crossing-closes plan (ready owner kinds late) least es i fs c x (subst (λ (w : Net). FedIn plan i (owner i) w x fs) (run_is es) f))
    where
      l : LentNet
      l = lent_after owner es (lent_begin kinds)

      again : tables_in (lent_after owner fs l) ≡ after plan fs (after plan es begin)
      again = (after-lent owner kinds late fs l (lent-run owner kinds late es).0 (subst (Moment owner) (sym (run_is es)) (moment es))).1 ∙ ap (after plan fs) (run_is es)

  -- as many rounds as the owner holds records and one, where only owners removed
  pub lent-owner-closes : (es : List Event) (i : ℕ)
      → every (owner_removes plan i) es ≡ true
      → (hears : (x y : ℕ) → Type 0) (ess : List (List Event))
      → Rounds plan (settled i) (Heard plan i) hears ess (tables_in (lent_after owner es (lent_begin kinds)))
      → (p : Node)
      → node_of i ((tables_in (lent_after owner es (lent_begin kinds))).hubs (owner i)) ≡ some p
      → suc (length p.recs) ≤ length ess
      → (x : ℕ)
      → hears x (owner i)
      → Closed plan i x (tables_in (lent_after_all owner ess (lent_after owner es (lent_begin kinds))))
  lent-owner-closes es i only hears ess rs p held h x e =
      subst (Closed plan i x) (sym (rounds-are es ess))
      (owner-closes plan (ready owner kinds late) es i only hears ess (subst (Rounds plan (settled i) (Heard plan i) hears ess) (run_is es) rs) p
      (subst (λ (w : Net). node_of i (w.hubs (owner i)) ≡ some p) (run_is es) held) h x e)

  -- in a graph that stays as it is
  pub lent-static-closes : (i : ℕ) (hears : (x y : ℕ) → Type 0) (hs : List ℕ)
      → ((x y : ℕ) → hears x y → (x ∈ hs) × (y ∈ hs))
      → 0 < length hs
      → (es : List Event)
      → Local plan hears i es begin []
      → (ess : List (List Event))
      → Rounds plan (calm i) (Heard plan i) hears ess (tables_in (lent_after owner es (lent_begin kinds)))
      → LocalAll plan hears i ess (tables_in (lent_after owner es (lent_begin kinds))) (senders_in plan es begin [])
      → (p : Node)
      → node_of i ((tables_in (lent_after owner es (lent_begin kinds))).hubs (owner i)) ≡ some p
      → length hs * (suc p.max * suc p.max) ≤ length ess
      → (k x : ℕ)
      → Steps hears (owner i) k x
      → Closed plan i x (tables_in (lent_after_all owner ess (lent_after owner es (lent_begin kinds))))
  lent-static-closes i hears hs within some-hub es l ess rs ls p held h k x t =
      subst (Closed plan i x) (sym (rounds-are es ess))
      (static-closes plan (ready owner kinds late) i hears hs within some-hub es l ess (subst (Rounds plan (calm i) (Heard plan i) hears ess) (run_is es) rs)
      (subst (λ (w : Net). LocalAll plan hears i ess w (senders_in plan es begin [])) (run_is es) ls) p (subst (λ (w : Net). node_of i (w.hubs (owner i)) ≡ some p) (run_is es) held) h k x t)
