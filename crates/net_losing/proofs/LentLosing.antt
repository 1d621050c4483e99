-- Bytes that are stored, given back and begun anew: whatever hubs lose, their bytes stay valid tables of their kinds, and the claims hold of the tables in them. Assumes nothing but
-- that no hub is plain.
use Prim.Native.Nat.{ℕ}
use mathlib.Core.Bool.{Bool, false, true}
use mathlib.Core.List.{List, [], ◌∷◌}
use mathlib.Core.Path.{◌≡◌, ap, refl, subst, sym}
use lib.Dec.{eqb}
use borrow.Author.Tests.{eqb-true}
use Rattle.fields.specs.Choice.{pick}
use Rattle.rules.specs.Apply.{ways_in}
use Rattle.rules.specs.Lent.{lent_new}
use Rattle.rules.specs.Table.{Table}
use Rattle.rules.specs.Whole.{decode_whole}
use Rattle.rules.specs.Profile.{Kind}
use Rattle.net.proofs.LentNet.{Good, In, begin-lent, happen-lent, one_profile, ready}
use Rattle.net.specs.LentNet.{lent_happen, plan_in}
use Rattle.net.specs.Net.{Event, Net, Plan}
use Rattle.net_losing.proofs.Firm.{Firm, firm-crashing, firm-forgetting, firm-start, firm-storing}
use Rattle.net_losing.proofs.Losing.{firm-event, firm-sound}
use Rattle.net_losing.specs.LentLosing.{Crashing, Forgetting, LentDoing, LentLosing, LentLosingSound, Ordinary, Storing, bytes_of_hub, lent_crashed, lent_doing, lent_forgotten, lent_lose, lent_start, lent_stored, lent_with_net, losing_in}
use Rattle.net_losing.specs.Losing.{Losing, allowed, crashed, forgotten, of_hub, out_after, start, stored, with_net}

-- the tables of bytes, where one hub has others
tables-of-hub : (x : ℕ) (b : List ℕ) (bs : ℕ → List ℕ) (t : Table) → (decode_whole b).table ≡ t → (y : ℕ) → (decode_whole (bytes_of_hub x b bs y)).table ≡ of_hub x t (λ z. (decode_whole (bs z)).table) y
tables-of-hub x b bs t e y = go (eqb y x)
  where
    go : (c : Bool) → (decode_whole (pick c b (bs y))).table ≡ pick c t (decode_whole (bs y)).table
    go true = e
    go false = refl

module _ (owner : ℕ → ℕ) (kinds : ℕ → Kind) (late : (x : ℕ) → (ways_in (kinds x)).late ≡ true) where
  abbrev plan : Plan
  plan = plan_in owner kinds

  -- the bytes are of tables of their kinds, on disk too, and what is in them is firm
  pub record Sure (w : LentLosing) : Type 0 where
    pub good : Good owner kinds w.net
    pub disks : (x : ℕ) → In (kinds x) (w.disk x)
    pub firm : Firm owner (losing_in w)

  in-hub : (x : ℕ) (b : List ℕ) (bs : ℕ → List ℕ) → In (kinds x) b → ((y : ℕ) → In (kinds y) (bs y)) → (y : ℕ) → In (kinds y) (bytes_of_hub x b bs y)
  in-hub x b bs i f y = go (eqb y x) refl
    where
      go : (c : Bool) → eqb y x ≡ c → In (kinds y) (pick c b (bs y))
      go true q = subst (λ (k : ℕ). In (kinds k) b) (sym (eqb-true y x q)) i
      go false q = f y

  new-bytes : (x : ℕ) → In (kinds x) (lent_new (kinds x))
  new-bytes x = (begin-lent owner kinds).0.hubs x

  new-table : (x : ℕ) → (decode_whole (lent_new (kinds x))).table ≡ []
  new-table x = ap (λ (n : Net). n.hubs x) (begin-lent owner kinds).1

  pub sure-start : Sure (lent_start kinds)
  sure-start =
      let b = begin-lent owner kinds in
      let p : losing_in (lent_start kinds) ≡ start = λ z. record { net = b.1 z; disk = λ x. (b.1 z).hubs x; kept = λ i. []; out = λ i. []; forgot = λ x. false } in
      record { good = b.0; disks = new-bytes; firm = subst (Firm owner) (sym p) (firm-start owner) }

  sure-event : (e : Event) (w : LentLosing) → Sure w → allowed owner e (losing_in w) ≡ true → Sure (lent_with_net (lent_happen owner e w.net) (out_after owner e (losing_in w)) w)
  sure-event e w s a =
      let f = firm-event plan (ready owner kinds late) (losing_in w) s.firm e a in
      let r = happen-lent owner kinds w.net s.good e f.obeyed in
      record {
        good = r.0;
        disks = s.disks;
        firm = subst (λ (n : Net). Firm owner (with_net n (out_after owner e (losing_in w)) (losing_in w))) (sym r.1) f;
      }

  sure-storing : (x : ℕ) (w : LentLosing) → Sure w → Sure (lent_stored owner x w)
  sure-storing x w s =
      let d = tables-of-hub x (w.net.hubs x) w.disk _ refl in
      let v : Losing = stored owner x (losing_in w) in
      let p : losing_in (lent_stored owner x w) ≡ v = λ z. record { net = v.net; disk = λ y. d y z; kept = v.kept; out = v.out; forgot = v.forgot } in
      record {
        good = s.good;
        disks = in-hub x (w.net.hubs x) w.disk (s.good.hubs x) s.disks;
        firm = subst (Firm owner) (sym p) (firm-storing owner (losing_in w) s.firm x);
      }

  sure-crashing : (x : ℕ) (w : LentLosing) → Sure w → Sure (lent_crashed owner x w)
  sure-crashing x w s =
      let h = tables-of-hub x (w.disk x) w.net.hubs _ refl in
      let v : Losing = crashed owner x (losing_in w) in
      let p : losing_in (lent_crashed owner x w) ≡ v =
      λ z. record { net = record { hubs = λ y. h y z; given = v.net.given; sent = v.net.sent; saved = v.net.saved }; disk = v.disk; kept = v.kept; out = v.out; forgot = v.forgot } in
      record {
        good = record { hubs = in-hub x (w.disk x) w.net.hubs (s.disks x) s.good.hubs; saved = s.good.saved; sent = s.good.sent };
        disks = s.disks;
        firm = subst (Firm owner) (sym p) (firm-crashing owner (losing_in w) s.firm x);
      }

  sure-forgetting : (x : ℕ) (w : LentLosing) → Sure w → Sure (lent_forgotten owner kinds x w)
  sure-forgetting x w s =
      let b : List ℕ = lent_new (kinds x) in
      let h = tables-of-hub x b w.net.hubs [] (new-table x) in
      let d = tables-of-hub x b w.disk [] (new-table x) in
      let v : Losing = forgotten owner x (losing_in w) in
      let p : losing_in (lent_forgotten owner kinds x w) ≡ v =
      λ z. record { net = record { hubs = λ y. h y z; given = v.net.given; sent = v.net.sent; saved = v.net.saved }; disk = λ y. d y z; kept = v.kept; out = v.out; forgot = v.forgot } in
      record {
        good = record { hubs = in-hub x b w.net.hubs (new-bytes x) s.good.hubs; saved = s.good.saved; sent = s.good.sent };
        disks = in-hub x b w.disk (new-bytes x) s.disks;
        firm = subst (Firm owner) (sym p) (firm-forgetting owner (losing_in w) s.firm x);
      }

  pub sure-doing : (e : LentDoing) (w : LentLosing) → Sure w → Sure (lent_doing owner kinds e w)
  unfolding lent_doing
  sure-doing (Ordinary e) w s = go (allowed owner e (losing_in w)) refl
    where
      go : (b : Bool) → allowed owner e (losing_in w) ≡ b → Sure (pick b (lent_with_net (lent_happen owner e w.net) (out_after owner e (losing_in w)) w) w)
      go true q = sure-event e w s q
      go false q = s
  sure-doing (Storing x) w s = sure-storing x w s
  sure-doing (Crashing x) w s = sure-crashing x w s
  sure-doing (Forgetting x) w s = sure-forgetting x w s

  sure-run : (es : List LentDoing) (w : LentLosing) → Sure w → Sure (lent_lose owner kinds es w)
  unfolding lent_lose
  sure-run [] w s = s
  sure-run (e ∷ es) w s = sure-run es (lent_doing owner kinds e w) (sure-doing e w s)

  -- At every moment: every hub's bytes are a valid table of its kind, and the claims hold of the tables in them.
  pub lent-losing-sound : (es : List LentDoing) → LentLosingSound owner kinds (lent_lose owner kinds es (lent_start kinds))
  lent-losing-sound es =
      let s = sure-run es (lent_start kinds) sure-start in
      let w : LentLosing = lent_lose owner kinds es (lent_start kinds) in
      record {
        valid = λ x. (s.good.hubs x).valid;
        kind_stays = λ x. (s.good.hubs x).kind_is;
        sound = firm-sound plan (ready owner kinds late) (losing_in w) s.firm;
        one_profile = one_profile owner kinds w.net s.good;
      }
