-- `listing_room::put_status` meets its contract: the text of each status. Assumes nothing.
use mathlib.Core.Path.{sym, subst}
use Rattle.rules.specs.declared.Status.{Status}
use Rattle.listing_room.specs.Room.{Ends, status_word}
use Rattle.listing_room.proofs.Room.{Put}
use Rattle.listing_room.proofs.put_status.Goals as goal

pub put_text-requires : goal.put_text-requires
put_text-requires c =
    subst (λ (s : Status). Ends c.args.at (status_word s)) c.in-Set.is c.requires

pub put_text-requires-in-Delete : goal.put_text-requires-in-Delete
put_text-requires-in-Delete c =
    subst (λ (s : Status). Ends c.args.at (status_word s)) c.in-Delete.is c.requires

pub put_text-requires-in-Ttl : goal.put_text-requires-in-Ttl
put_text-requires-in-Ttl c =
    subst (λ (s : Status). Ends c.args.at (status_word s)) c.in-Ttl.is c.requires

pub returns-in-Set : goal.returns-in-Set
returns-in-Set c =
    let call = c.put_text in
    subst (λ (s : Status). Put c.args.at (status_word s) c.args.out.now call.new.out call.result) (sym c.in-Set.is)
    call.ensures

pub returns-in-Delete : goal.returns-in-Delete
returns-in-Delete c =
    let call = c.put_text-in-Delete in
    subst (λ (s : Status). Put c.args.at (status_word s) c.args.out.now call.new.out call.result) (sym c.in-Delete.is)
    call.ensures

pub returns-in-Ttl : goal.returns-in-Ttl
returns-in-Ttl c =
    let call = c.put_text-in-Ttl in
    subst (λ (s : Status). Put c.args.at (status_word s) c.args.out.now call.new.out call.result) (sym c.in-Ttl.is)
    call.ensures
