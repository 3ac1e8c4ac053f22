-- Every rule unfolded at once, for what is proved by computing.
use Rattle.model.specs.ItemFormat.{encode_items, are_items, decode_items}
use Rattle.model.specs.Requests.{encode_request, decode_request}
use Rattle.model.specs.Lists.{some, every, only, joined_by, place}
use Rattle.model.specs.Ranges.{put_items}
use Rattle.model.specs.Participants.{members_below, named_below}
use Rattle.model.specs.Journal.{outcomes_left}
use Rattle.model.specs.Writes.{applied_all}
use Rattle.model.specs.Handling.{reaction, checkpoint_of}
use Rattle.model.specs.Making.{making}
use Rattle.model.specs.Calls.{carried, open_items, performed, step}
use Rattle.model.specs.Deeds.{deed, touched_by_all, yes_by_all}
use Rattle.model.specs.History.{following, written_since, yes_log, requests}
use Rattle.model.specs.SerialRun.{writes_all, turns, memories_after, turn_of}
use Rattle.model.specs.Samples.{after, answers, events_of}

unfoldable pub every_rule : Unit {0}
unfolding encode_items are_items decode_items encode_request decode_request some every only joined_by place put_items members_below named_below outcomes_left applied_all reaction checkpoint_of making carried open_items performed step after answers events_of deed touched_by_all yes_by_all following written_since yes_log requests writes_all turns memories_after turn_of
every_rule = tt
