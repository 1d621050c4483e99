-- The merged prefix listing of overrides and a node (document 02, ticket 10): the overrides' hits laid over the node's, each key once, in key order. A hit is a
-- byte: the place of the record in the node, or 128 and its place in the overrides. A party is listed the keys alone that it may name (ticket 9): places in the
-- node are those among the records that it sees; the overrides are the site's own memory, and places there are those among all of them.
use Rattle.std.specs.Prelude.{ℕ, suc, Bool, ◌&&◌, List, [], ◌∷◌, length, leb}
use Rattle.std.proofs.Math.Option.{Option, none, some}
use Rattle.fields.specs.Choice.{pick}
use Rattle.fields.specs.Numbers.{Bytes}
use Rattle.fields.specs.Order.{same_bytes, less_bytes}
use Rattle.fields.specs.Parts.{put}
use Rattle.rules.specs.Sizes.{max_key}
use Rattle.rules.specs.Given.{Given, given}
use Rattle.rules.specs.Node.{Rec, Node, hits}
use Rattle.rules.specs.Table.{Table, node_of}
use Rattle.rules.specs.Party.{sees, seen_recs, seen}
use Rattle.rules.specs.Whole.{decode_whole}
use Rattle.rules.specs.declared.Profile.{Profile}
use Rattle.rules.specs.declared.Party.{Party}
use Rattle.rules.specs.declared.Refusal.TheVariants.{TooLong, NoNode, NoPlace, BadTable}
use Rattle.overrides.specs.Both.{from_both}
use Rattle.overrides.specs.declared.Which.TheVariants as which
use Rattle.std.specs.Prelude.{Err, Ok, Result}
use Rattle.overrides.specs.declared.RefusedOver.{RefusedOver}

-- what a hit in the overrides has before its place
abbrev pub over_place : ℕ
over_place = 128

-- a hit: the byte that stands for it, and its record
pub record Hit : Type 0 where
  pub place : ℕ
  pub rec : Rec

abbrev pub hit : (place : ℕ) (rec : Rec) → Hit
hit i r = record { place = i; rec = r }

abbrev pub key_of_hit : Hit → Bytes
key_of_hit h = h.rec.kv.key

-- the hits among the records that pass a test, the first record's place being i
unfoldable pub hits_by : (test : Rec → Bool) (i : ℕ) (recs : List Rec) → List Hit
hits_by f i [] = []
hits_by f i (r ∷ l) = pick (f r) (hit i r ∷ hits_by f (suc i) l) (hits_by f (suc i) l)

-- those that document 01's listing gives
abbrev pub hits_in : (prefix : Bytes) (i : ℕ) (recs : List Rec) → List Hit
hits_in p i l = hits_by (hits p) i l

-- those of the keys that may be named
abbrev pub own_hits : (mine : Bytes → Bool) (prefix : Bytes) (i : ℕ) (recs : List Rec) → List Hit
own_hits mine p i l = hits_by (λ (r : Rec). mine r.kv.key && hits p r) i l

-- a hit takes the place of its key's, or its own in the order of the keys
unfoldable pub lay_over : (hit : Hit) (hits : List Hit) → List Hit
lay_over h [] = h ∷ []
lay_over h (a ∷ l) =
    pick (same_bytes (key_of_hit h) (key_of_hit a)) (h ∷ l) (pick (less_bytes (key_of_hit h) (key_of_hit a)) (h ∷ a ∷ l) (a ∷ lay_over h l))

-- one after the other
unfoldable pub overlaid : (over node : List Hit) → List Hit
overlaid [] ns = ns
overlaid (o ∷ os) ns = lay_over o (overlaid os ns)

unfoldable pub places_of : (hits : List Hit) → Bytes
places_of [] = []
places_of (h ∷ l) = h.place ∷ places_of l

unfoldable pub recs_of : (hits : List Hit) → List Rec
recs_of [] = []
recs_of (h ∷ l) = h.rec ∷ recs_of l

-- the listing of the overrides' records whose keys may be named, and the node's
unfoldable pub listing : (mine : Bytes → Bool) (prefix : Bytes) (over node : List Rec) → List Hit
listing mine p o n = overlaid (own_hits mine p over_place o) (hits_in p 0 n)

-- by a party: what it sees of the node's records
abbrev pub listing_as : (profile : Profile) (party : Party) (prefix : Bytes) (over node : List Rec) → List Hit
listing_as pr q p o n = listing (sees pr q) p o (seen_recs pr q n)

abbrev pub places_as : (profile : Profile) (party : Party) (prefix : Bytes) (over node : List Rec) → Bytes
places_as pr q p o n = places_of (listing_as pr q p o n)

-- ---- the call

-- the places of the hits go to the front of the lent list, where it has room for them (8)
abbrev pub list_into : (found list : Bytes) → Given (Result ℕ RefusedOver) Bytes
list_into found l =
    pick (leb (length found) (length l)) (given (Ok (length found)) (put 0 found l)) (given (Err (record { which = which.Neither; why = NoPlace })) l)

-- 2, 1, 8
abbrev pub list_on : (mine : Bytes → Bool) (prefix : Bytes) (over : Node) (held : Option Node) (list : Bytes) → Given (Result ℕ RefusedOver) Bytes
list_on mine p o none l = given (Err (record { which = which.Neither; why = NoNode })) l
list_on mine p o (some n) l =
    pick (leb (length p) max_key) (list_into (places_of (listing mine p o.recs n.recs)) l) (given (Err (record { which = which.Neither; why = TooLong })) l)

-- by a party
abbrev pub list_over : (profile : Profile) (party : Party) (number : ℕ) (prefix list : Bytes) (over : Node) (table : Table) → Given (Result ℕ RefusedOver) Bytes
list_over pr q number p l o t = list_on (sees pr q) p o (node_of number (seen pr q t)) l

-- in lent bytes: 14 of the overrides, 14 of the table, 2, 1, 8
abbrev pub lent_list_over : (party : Party) (number : ℕ) (prefix list overrides table : Bytes) → Given (Result ℕ RefusedOver) Bytes
lent_list_over q number p l o t = from_both (λ w. given (Err (record { which = w; why = BadTable })) l) (list_over (decode_whole t).kind.profile q number p l) o t
