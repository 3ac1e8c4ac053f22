use Rattle.model.proofs.sanity.every_store_is_bounded.Goals as goal
use Rattle.model.proofs.Keeping.{every_journal_bounded, every_memory_keeps_size}

pub returns : goal.returns
returns c = record { journals = every_journal_bounded; memories = every_memory_keeps_size }
