-- Hubs that lose their memory, in lent bytes: the bytes of every hub's table and of its disk. What happens in a net happens by the definitions that the entry points
-- promise (net: LentNet). A hub stores its bytes as they are, and a crash gives them back; who forgets has the bytes of a new table of its kind. No entry point sets one
-- node to a copy of it, so that nothing is recalled here.
use Rattle.std.specs.Prelude.{ℕ, ◌≡◌, Bool, true, false, List, [], ◌∷◌, eqb}
use Rattle.fields.specs.Numbers.{Bytes}
use Rattle.fields.specs.Choice.{pick}
use Rattle.rules.specs.Node.{KeyValue}
use Rattle.rules.specs.Whole.{decode_whole, valid_whole}
use Rattle.rules.specs.Lent.{lent_new}
use Rattle.rules.specs.Profile.{Kind}
use Rattle.net.specs.Net.{Event}
use Rattle.net.specs.LentNet.{LentNet, OneProfile, lent_begin, lent_happen, plan_in, tables_in}
use Rattle.net_losing.specs.Losing.{Losing, LosingSound, allowed, of_owner, out_after}

-- as in Losing: what was kept and let out, and who ever forgot, no call looks at
pub record LentLosing : Type 0 where
  pub net : LentNet
  pub disk : ℕ → Bytes
  pub kept : ℕ → List KeyValue
  pub out : ℕ → List KeyValue
  pub forgot : ℕ → Bool

-- new tables, each of its kind, and the same on disk
abbrev pub lent_start : (kinds : ℕ → Kind) → LentLosing
lent_start kinds = record { net = lent_begin kinds; disk = λ x. lent_new (kinds x); kept = λ i. []; out = λ i. []; forgot = λ x. false }

-- the tables that stand in the bytes
abbrev pub losing_in : (w : LentLosing) → Losing
losing_in w = record { net = tables_in w.net; disk = λ x. (decode_whole (w.disk x)).table; kept = w.kept; out = w.out; forgot = w.forgot }

pub data LentDoing : Type 0 where
  Ordinary : Event → LentDoing
  Storing : ℕ → LentDoing
  Crashing : ℕ → LentDoing
  Forgetting : ℕ → LentDoing

abbrev pub bytes_of_hub : (hub : ℕ) (table : Bytes) (others : ℕ → Bytes) (hubs : ℕ) → Bytes
bytes_of_hub x b bs y = pick (eqb y x) b (bs y)

abbrev pub lent_with_net : (net : LentNet) (out : ℕ → List KeyValue) (w : LentLosing) → LentLosing
lent_with_net n o w = record { net = n; disk = w.disk; kept = w.kept; out = o; forgot = w.forgot }

abbrev pub lent_stored : (owner : ℕ → ℕ) (hub : ℕ) (w : LentLosing) → LentLosing
lent_stored owner x w =
    record {
      net = w.net;
      disk = bytes_of_hub x (w.net.hubs x) w.disk;
      kept = of_owner owner x w.net.given w.kept;
      out = w.out;
      forgot = w.forgot;
    }

abbrev pub lent_crashed : (owner : ℕ → ℕ) (hub : ℕ) (w : LentLosing) → LentLosing
lent_crashed owner x w =
    record {
      net = record { hubs = bytes_of_hub x (w.disk x) w.net.hubs; given = of_owner owner x w.kept w.net.given; sent = w.net.sent; saved = w.net.saved };
      disk = w.disk;
      kept = w.kept;
      out = w.out;
      forgot = w.forgot;
    }

abbrev pub lent_forgotten : (owner : ℕ → ℕ) (kinds : ℕ → Kind) (hub : ℕ) (w : LentLosing) → LentLosing
lent_forgotten owner kinds x w =
    record {
      net = record { hubs = bytes_of_hub x (lent_new (kinds x)) w.net.hubs; given = of_owner owner x w.out w.net.given; sent = w.net.sent; saved = w.net.saved };
      disk = bytes_of_hub x (lent_new (kinds x)) w.disk;
      kept = of_owner owner x w.out w.kept;
      out = w.out;
      forgot = λ y. pick (eqb y x) true (w.forgot y);
    }

unfoldable pub lent_doing : (owner : ℕ → ℕ) (kinds : ℕ → Kind) (doing : LentDoing) (w : LentLosing) → LentLosing
lent_doing owner kinds (Ordinary e) w = pick (allowed owner e (losing_in w)) (lent_with_net (lent_happen owner e w.net) (out_after owner e (losing_in w)) w) w
lent_doing owner kinds (Storing x) w = lent_stored owner x w
lent_doing owner kinds (Crashing x) w = lent_crashed owner x w
lent_doing owner kinds (Forgetting x) w = lent_forgotten owner kinds x w

unfoldable pub lent_lose : (owner : ℕ → ℕ) (kinds : ℕ → Kind) (doings : List LentDoing) (w : LentLosing) → LentLosing
lent_lose owner kinds [] w = w
lent_lose owner kinds (e ∷ es) w = lent_lose owner kinds es (lent_doing owner kinds e w)

-- every hub's bytes are a valid table of the kind that it began with, and the tables are as claimed
pub record LentLosingSound (owner : ℕ → ℕ) (kinds : ℕ → Kind) (w : LentLosing) : Type 0 where
  pub valid : (x : ℕ) → valid_whole (w.net.hubs x) ≡ true
  pub kind_stays : (x : ℕ) → (decode_whole (w.net.hubs x)).kind ≡ kinds x
  pub sound : LosingSound (plan_in owner kinds) (losing_in w)
  pub one_profile : OneProfile kinds w.net
