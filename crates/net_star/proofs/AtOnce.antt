-- The everyday exchange, a follower's digest, o's delta for it and its applying, with nothing between, is one that counts in o's star. Assumes nothing.
use Prim.Native.Nat.{ℕ}
use mathlib.Core.Bool.{false, false≢true, true}
use mathlib.Core.List.{List, [], ◌∷◌}
use mathlib.Core.Path.{◌∙◌, ◌≡◌, ap, refl, sym}
use lib.Dec.{ltb}
use Rattle.fields.specs.Choice.{◌∈◌}
use Rattle.rules.proofs.Digests.{read-written}
use Rattle.rules.proofs.Obeys.{facts-table}
use Rattle.rules.specs.Apply.{apply}
use Rattle.rules.specs.Delta.{delta_bytes}
use Rattle.rules.specs.Digest.{Entries, NodeDigest, digest_bytes, digest_of}
use Rattle.rules.specs.Given.{Given}
use Rattle.rules.specs.Sizes.{numbers}
use Rattle.rules.specs.Table.{Entry, among}
use Rattle.std.specs.Prelude.{Result}
use Rattle.rules.specs.declared.Refusal.{Refusal}
use Rattle.rules.specs.declared.Sent.{Sent}
use Rattle.demand3.proofs.Forms.{Comes, comes, refuses, writes}
use Rattle.demand3.specs.Demand3.{no_room, wrote_delta}
use Rattle.demand3.specs.Forms.{compute_by, ops_by}
use Rattle.demand3.specs.World.{arrives, cut_by, intact, nth_sent, sent_after, sent_for}
use Rattle.net.proofs.Moments.{Moment}
use Rattle.net.specs.Net.{Arriving, Computing, Event, Net, Plan, after, happen}
use Rattle.net_closing.proofs.Exchange.{read-edition}
use Rattle.net_closing.specs.Closing.{Asked}
use Rattle.net_star.specs.Star.{Exchanges, Follows, ops_of, wide}

-- the two calls, for x's own digest
abbrev pub at_once : (asked : Asked) (excluded : List ℕ) (o x : ℕ) (net : Net) → List Event
at_once q excluded o x w =
    Computing o q.edition (digest_bytes q.edition (digest_of [] (w.hubs x))) excluded q.order q.mtu q.place q.datagram
    ∷ Arriving x (intact 0) q.now q.answers
    ∷ []

module _ (plan : Plan) (w : Net) (ok : Moment plan.owner w) (o x : ℕ) (q : Asked) (excluded : List ℕ)
    (wrote : wrote_delta (compute_by q.edition excluded q.order q.mtu q.place (digest_bytes q.edition (digest_of [] (w.hubs x))) (w.hubs o) q.datagram).answer ≡ true) where
  abbrev told : List NodeDigest
  told = digest_of [] (w.hubs x)

  abbrev bytes : List ℕ
  bytes = delta_bytes (ops_of q excluded o x w w)

  -- the delta is the newest that was computed
  sent_is : sent_for q.edition (digest_bytes q.edition told) excluded q.order q.mtu q.place q.datagram (w.hubs o) w.sent ≡ bytes ∷ w.sent
  sent_is = go _ (comes q.edition excluded q.order q.mtu q.place (digest_bytes q.edition told) (w.hubs o) q.datagram (facts-table (w.hubs o) (ok.tables o).obeyed)) wrote
    where
      go : (a : Given (Result Sent Refusal) (List ℕ)) → Comes q.edition excluded q.order q.mtu q.place (digest_bytes q.edition told) (w.hubs o) q.datagram a → wrote_delta a.answer ≡ true → sent_after q.place a.lent a.answer w.sent ≡ bytes ∷ w.sent
      go a (refuses r) g = absurd (false≢true g)
      go a (writes ds rest e k there) g =
          let twice : Entries ds rest ≡ Entries told [] = sym e ∙ read-written q.edition (read-edition q.edition _ ds rest e) [] (w.hubs x) (facts-table (w.hubs x) (ok.tables x).obeyed) in
          let ds-is : ds ≡ told = cc in
          ap (λ (l : List ℕ). l ∷ w.sent) (there ∙ ap (λ (l : List NodeDigest). delta_bytes (ops_by excluded q.order q.mtu l (w.hubs o))) ds-is)

  pub at-once : wide q.order q.mtu ≡ true
      → ((e : Entry) → e ∈ w.hubs o → plan.owner e.number ≡ o → among e.number excluded ≡ false)
      → ((e : Entry) → e ∈ w.hubs o → among e.number excluded ≡ false → plan.owner e.number ≡ o)
      → Follows plan.owner o (w.hubs o) (w.hubs x)
      → ltb q.now numbers ≡ true
      → no_room (apply (plan.ways x) bytes q.now (w.hubs x) q.answers).answer (apply (plan.ways x) bytes q.now (w.hubs x) q.answers).list ≡ true
      → Exchanges plan o x (at_once q excluded o x w) w
  unfolding after happen nth_sent cut_by
  at-once is_wide go stay follows clock roomy =
      record {
        asked = q;
        excluded = excluded;
        which = intact 0;
        before = [];
        waiting = [];
        coming = Computing o q.edition (digest_bytes q.edition told) excluded q.order q.mtu q.place q.datagram ∷ [];
        rest = [];
        is = refl;
        whole =
            record {
              is_wide = is_wide;
              own_go = go;
              others_stay = stay;
              had = follows;
              has = follows;
              wrote = wrote;
              comes = ap (λ (ss : List (List ℕ)). arrives (intact 0) ss) sent_is;
              clock = clock;
              roomy = roomy;
            };
      }
