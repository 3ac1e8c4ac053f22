-- What the entries of the code stand for.
use Rattle.std.specs.Prelude.{Bool, cond, ◌||◌, Some, None, Option}
use Rattle.model.specs.declared.outcome.Outcome.{Outcome}
use Rattle.model.specs.Journal.{Journal as Log, Entry as PlainEntry, added, durably}
use Rattle.records.specs.Cursor.{items_meaning}
use Rattle.records.specs.ItemSets.{set_items}
use Rattle.journal.specs.declared.entry.Entry.{Entry}
use Rattle.journal.specs.declared.promise.Promise.{Promise}
use Rattle.journal.specs.declared.view.EntryView.{EntryView}

-- an entry that a journal shows
abbrev pub entry_meaning : EntryView → PlainEntry
entry_meaning v =
    record { running = v.running; tid = v.tid; participants = v.participants; writes = items_meaning v.writes; outcome = v.outcome }

-- an entry that a table keeps
abbrev pub stored_entry : Entry → PlainEntry
stored_entry e =
    record {
      running = e.running;
      tid = e.promise.tid;
      participants = e.promise.participants;
      writes = set_items e.promise.writes;
      outcome = e.outcome;
    }

-- a journal with an entry more for what is promised, without outcome
abbrev pub promised : Log → Promise → Log
promised j p = added j p.tid p.participants (set_items p.writes)

-- an outcome made durable; a pending one is kept or lost
abbrev pub durable_outcome : Bool → Option Outcome → Option Outcome
durable_outcome keeps None = None
durable_outcome keeps (Some o) = cond (keeps || o.durable) (Some (durably o.commits)) None

abbrev pub durable_entry : Bool → Entry → Entry
durable_entry keeps e =
    record { running = e.running; promise = e.promise; outcome = durable_outcome keeps e.outcome }
