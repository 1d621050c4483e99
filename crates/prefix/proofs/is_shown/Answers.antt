-- `prefix::is_shown` meets its contract, by the status that was read. Assumes nothing.
use mathlib.Core.Path.{◌≡◌, ap, sym, ◌∙◌}
use mathlib.Core.Bool.{not}
use Rattle.rules.specs.Node.{hidden}
use Rattle.rules.specs.declared.Record.{Record}
use Rattle.rules.specs.declared.Status.{Status}
use Rattle.rules.specs.declared.Status.TheVariants.{Set, Delete, Ttl}
use Rattle.table_read.proofs.Reading.{lent-rec-needs, rec-fits, rec-read}
use Rattle.prefix.proofs.Hits.{shown_at}
use Rattle.prefix.proofs.is_shown.Goals as goal

pub record_of-requires : goal.record_of-requires
record_of-requires c =
    search lent-rec-needs

pub read_record-r-requires : goal.read_record-r-requires
read_record-r-requires c =
    rec-fits _ c.requires.0 _ c.requires.1 _ c.record_of.ensures

pub returns-in-Delete : goal.returns-in-Delete
returns-in-Delete c =
    let by-status : (s : Status) → c.read_record-r.result.status ≡ s
    → let a = c.args in not (hidden s) ≡ shown_at a.j a.node.now = λ (s : Status) (h : c.read_record-r.result.status ≡ s). let a = c.args in
    ap (λ (u : Status). not (hidden u))
    (sym h ∙ ap (λ (x : Record). x.status) (rec-read a.node.now a.j _ c.record_of.ensures _ c.read_record-r.ensures)) in
    by-status Delete c.in-Delete.is

pub returns-in-Set : goal.returns-in-Set
returns-in-Set c =
    let by-status : (s : Status) → c.read_record-r.result.status ≡ s
    → let a = c.args in not (hidden s) ≡ shown_at a.j a.node.now = λ (s : Status) (h : c.read_record-r.result.status ≡ s). let a = c.args in
    ap (λ (u : Status). not (hidden u))
    (sym h ∙ ap (λ (x : Record). x.status) (rec-read a.node.now a.j _ c.record_of.ensures _ c.read_record-r.ensures)) in
    by-status Set c.in-Set.is

pub returns-in-Ttl : goal.returns-in-Ttl
returns-in-Ttl c =
    let by-status : (s : Status) → c.read_record-r.result.status ≡ s
    → let a = c.args in not (hidden s) ≡ shown_at a.j a.node.now = λ (s : Status) (h : c.read_record-r.result.status ≡ s). let a = c.args in
    ap (λ (u : Status). not (hidden u))
    (sym h ∙ ap (λ (x : Record). x.status) (rec-read a.node.now a.j _ c.record_of.ensures _ c.read_record-r.ensures)) in
    by-status Ttl c.in-Ttl.is
