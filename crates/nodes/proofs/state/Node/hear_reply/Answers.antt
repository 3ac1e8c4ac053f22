-- The first record of the tid is what the rules find.
use Rattle.std.proofs.Common.{map, ap, ◌∙◌, rules}
use lib.Seq.{map-set}
use Rattle.std.specs.Option.{option_map}
use Rattle.model.specs.Node.{unresolved_tid, no_unresolved}
use Rattle.nodes.specs.Standing.{standing}
use Rattle.nodes.specs.Tables.{unresolved_meaning, placed}
use Rattle.nodes.proofs.Places.{found_meaning}
use Rattle.nodes.proofs.state.Node.hear_reply.Goals as goal

pub returns-in_default-clause-volatile : goal.returns-in_default-clause-volatile
returns-in_default-clause-volatile g c =
    let all = standing c.args.self.now.volatile.unresolved in
    let known = ap (option_map (placed unresolved_meaning)) c.in_default.ensures ∙ found_meaning unresolved_meaning unresolved_tid no_unresolved c.args.reply.tid all in
    search rules

pub returns-then-is_open-clause-volatile : goal.returns-then-is_open-clause-volatile
returns-then-is_open-clause-volatile g c =
    let all = standing c.args.self.now.volatile.unresolved in
    let known = ap (option_map (placed unresolved_meaning)) c.in-Some.ensures ∙ found_meaning unresolved_meaning unresolved_tid no_unresolved c.args.reply.tid all in
    let changed = ap (map unresolved_meaning) c.replace.ensures ∙ map-set unresolved_meaning all c.in-Some.place c.heard-heard.result in
    search rules

pub returns-else-is_open-clause-volatile : goal.returns-else-is_open-clause-volatile
returns-else-is_open-clause-volatile g c =
    let all = standing c.args.self.now.volatile.unresolved in
    let known = ap (option_map (placed unresolved_meaning)) c.in-Some.ensures ∙ found_meaning unresolved_meaning unresolved_tid no_unresolved c.args.reply.tid all in
    search rules
