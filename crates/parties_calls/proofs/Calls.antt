-- The two runs of the calls as they are linked: every call that is an event of the two runs tells and leaves what that event says and leaves. Assumes nothing.
use mathlib.Core.Bool.{Bool, true, false}
use mathlib.Core.List.{List, [], ◌∷◌}
use mathlib.Core.Path.{◌≡◌, refl, ap, ap₂, sym, ◌∙◌, subst}
use lib.Dec.{ltb}
use borrow.Author.Tests.{lt-ltb}
use Rattle.fields.specs.Choice.{all, pick}
use Rattle.fields.specs.Numbers.{Bytes}
use Rattle.fields.proofs.Choice.{and_intro}
use Rattle.rules.specs.Answers.{Told}
use Rattle.rules.specs.Sizes.{numbers}
use Rattle.rules.specs.Whole.{decode_whole}
use Rattle.rules.specs.declared.Party.{Party}
use Rattle.rules.specs.declared.Profile.TheVariants.{Shared}
use Rattle.inspect.specs.Look.{lent_node_header}
use Rattle.inspect.specs.Told.{node_header_told, record_read_told}
use Rattle.std.specs.Prelude.{Err, None, Ok, Option, Result, Some}
use Rattle.inspect.specs.declared.RecordRead.{RecordRead}
use Rattle.rules.specs.declared.Header.{Header}
use Rattle.rules.specs.declared.Refusal.{Refusal}
use Rattle.demand1.specs.Calls as calls
use Rattle.demand1.specs.Calls.{Call, Kind, leaves}
use Rattle.parties.specs.LentRuns.{LentUnspent, all_fit, event_fits, lent_happen, lent_heard, lent_said}
use Rattle.parties.specs.TwoRuns.{Said, concerns, stripped}
use Rattle.parties_calls.specs.Calls.{Does, DoesIf, IsCall, OwnUnspent, Run, Step, beat_of, but_version, events_of, step_of, told_by, told_to}
use Rattle.parties_calls.specs.Linked.{beat_told, lent_asked, record_told}
use Rattle.parties_calls.proofs.Linked.{linked-two-runs}

-- ---- one call

-- what is left of a record, and of a header
record-left : (a : (Result (Option RecordRead) Refusal)) → told_by but_version (record_read_told a) ≡ record_told a
unfolding record_read_told
record-left (Ok (Some r)) = refl
record-left (Ok None) = refl
record-left (Err r) = refl

header-left : (a : (Result Header Refusal)) → told_by beat_of (node_header_told a) ≡ beat_told a
unfolding node_header_told
header-left (Ok h) = refl
header-left (Err r) = refl

fit : (n : calls.U64) → ltb n.value numbers ≡ true
fit n = lt-ltb n.value numbers n.fits

pub call-does : (p : Party) {k : Kind} (c : Call k) → DoesIf (step_of p c)
unfolding step_of leaves
call-does p (calls.new-table t m f) = tt
call-does p (calls.add-node t i) = record { tells = refl; leaves_so = refl; fits = fit i }
call-does p (calls.remove-node t i) = record { tells = refl; leaves_so = refl; fits = refl }
call-does p (calls.last-heartbeat t i) = record { tells = refl; leaves_so = refl; fits = refl }
call-does p (calls.write t k v i wanted now q) = record { tells = refl; leaves_so = refl; fits = fit now }
call-does p (calls.delete t k i now q) = record { tells = refl; leaves_so = refl; fits = fit now }
call-does p (calls.delete-after-ttl t k i now q) = record { tells = refl; leaves_so = refl; fits = fit now }
call-does p (calls.remove-scheduled t now grace) = record { tells = refl; leaves_so = refl; fits = refl }
call-does p (calls.offer-heartbeat t i h) = record { tells = refl; leaves_so = refl; fits = fit h }
call-does p (calls.local-beat t i) = record { tells = refl; leaves_so = refl; fits = refl }
call-does p (calls.find t k i q) = record { tells = refl; leaves_so = refl; fits = refl }
call-does p (calls.list-prefix t k out i q) = record { tells = refl; leaves_so = refl; fits = refl }
call-does p (calls.new-overrides o i) = tt
call-does p (calls.write-override o k v wanted now) = tt
call-does p (calls.delete-override o k now) = tt
call-does p (calls.delete-override-after-ttl o k now) = tt
call-does p (calls.remove-overrides o now grace) = tt
call-does p (calls.find-over t o k i q) = record { tells = refl; leaves_so = refl; fits = refl }
call-does p (calls.list-over t o k out i q) = record { tells = refl; leaves_so = refl; fits = refl }
call-does p (calls.new-grid t g) = tt
call-does p (calls.grid_add_node t g i) = tt
call-does p (calls.grid_remove_node t g i) = tt
call-does p (calls.tell g digest x edition) = tt
call-does p (calls.take-out g x) = tt
call-does p (calls.least-max g i) = tt
call-does p (calls.seen-by g x i) = tt
call-does p (calls.remove-carefully t g now grace) = tt
call-does p (calls.node-count t) = record { tells = refl; leaves_so = refl; fits = refl }
call-does p (calls.node-number t i) = record { tells = refl; leaves_so = refl; fits = refl }
call-does p (calls.node-header t i) = record { tells = header-left (lent_node_header i.value t); leaves_so = refl; fits = refl }
call-does p (calls.record-count t i q) = record { tells = refl; leaves_so = refl; fits = refl }
call-does p (calls.record-at t i j q) = record { tells = record-left _; leaves_so = refl; fits = refl }
call-does p (calls.record-of t i j q) = record { tells = record-left _; leaves_so = refl; fits = refl }
call-does p (calls.record-by-key t k i q) = record { tells = record-left _; leaves_so = refl; fits = refl }
call-does p (calls.node-rows t i q) = record { tells = refl; leaves_so = refl; fits = refl }
call-does p (calls.front t i q) = tt
call-does p (calls.prefix-rows t k i q) = record { tells = refl; leaves_so = refl; fits = refl }
call-does p (calls.find-text t i j x q) = record { tells = refl; leaves_so = refl; fits = refl }
call-does p (calls.write-digest t edition excluded datagram place) = tt
call-does p (calls.read-digest edition digest) = tt
call-does p (calls.digest_entry digest edition i) = tt
call-does p (calls.compute t edition digest excluded ties datagram mtu place) = tt
call-does p (calls.compute-plan t edition digest excluded nodes counts datagram mtu place) = tt
call-does p (calls.plan-fault t edition digest excluded nodes counts mtu) = tt
call-does p (calls.read-delta delta) = tt
call-does p (calls.apply t delta answers now) = tt
call-does p (calls.list-delta delta out) = tt
call-does p (calls.make-delta text out) = tt
call-does p (calls.exchange publisher follower edition unasked unsent ties digest delta answers mtu now) = tt

step-does : (p : Party) (s : Step) → IsCall p s → Does s
step-does p s c = subst DoesIf c.is (call-does p c.call)

-- ---- a run

told_all : (said : List Said) → List Told
told_all [] = []
told_all (s ∷ l) = s.told ∷ told_all l

-- it is a run of events
record IsRun (p : Party) (ss : List Step) (l : Bytes) : Type 0 where
  told : told_to p ss ≡ told_all (lent_heard lent_asked p (events_of ss) l)
  fits : all_fit (events_of ss) ≡ true
  unspent : OwnUnspent p ss → LentUnspent lent_asked p (events_of ss) l

run-events : (p : Party) (ss : List Step) (l : Bytes) → Run p ss l → IsRun p ss l
unfolding Run told_to told_all lent_heard events_of all OwnUnspent LentUnspent
run-events p [] l r = record { told = refl; fits = refl; unspent = λ u. tt }
run-events p (s ∷ ss) l r = go (step-does p s r.1) (run-events p ss s.after r.2)
  where
    go : Does s → IsRun p ss s.after → IsRun p (s ∷ ss) l
    go d ih =
        let e : s.told ≡ (lent_said lent_asked s.event l).told = d.tells ∙ ap (λ (x : Bytes). (lent_said lent_asked s.event x).told) r.0 in
        let n : s.after ≡ lent_happen s.event l = d.leaves_so ∙ ap (lent_happen s.event) r.0 in
        record {
          told = at (concerns p s.event) e (ih.told ∙ ap (λ (x : Bytes). told_all (lent_heard lent_asked p (events_of ss) x)) n);
          fits = and_intro (event_fits s.event) (all_fit (events_of ss)) d.fits ih.fits;
          unspent = λ u. (λ c h m. u.0 c h (ap (λ (t : Told). t.number) e ∙ m), subst (LentUnspent lent_asked p (events_of ss)) n (ih.unspent u.1));
        }
      where
        at : (b : Bool) → s.told ≡ (lent_said lent_asked s.event l).told → told_to p ss ≡ told_all (lent_heard lent_asked p (events_of ss) (lent_happen s.event l))
            → pick b (s.told ∷ told_to p ss) (told_to p ss)
            ≡ told_all (pick b (lent_said lent_asked s.event l ∷ lent_heard lent_asked p (events_of ss) (lent_happen s.event l)) (lent_heard lent_asked p (events_of ss) (lent_happen s.event l)))
        at true e ih = ap₂ (λ (t : Told) (x : List Told). t ∷ x) e ih
        at false e ih = ih

-- TICKET 9, of the calls as they are linked. Two runs of calls from the same bytes, whatever these are; where they are a table, it is shared. They agree on the
-- party's own calls and on all that is common; none of its own writes and deletes is answered 6. Then every call that concerns it tells the same in both, but
-- for a record's version and for max and last_gc of a header.
pub calls-two-runs : (p : Party) (ss rs : List Step) (l : Bytes) → (decode_whole l).kind.profile ≡ Shared → Run p ss l → Run p rs l → OwnUnspent p ss → OwnUnspent p rs
    → stripped p (events_of ss) ≡ stripped p (events_of rs) → told_to p ss ≡ told_to p rs
calls-two-runs p ss rs l shared a b u v same =
    let x = run-events p ss l a in
    let y = run-events p rs l b in
    let z = linked-two-runs p (events_of ss) (events_of rs) l shared x.fits y.fits (x.unspent u) (y.unspent v) same in
    x.told ∙ ap told_all z.hear ∙ sym y.told
