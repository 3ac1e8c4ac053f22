-- The two tests agree on every node of a cluster.
use Rattle.std.proofs.Common.{false, ◌||◌, eqb, get_or, ap, ◌∙◌, inr, arith}
use Rattle.model.proofs.Members.{every_same, with_one}
use Rattle.model.proofs.participants.every_other.Goals as goal

pub returns : goal.returns
returns c =
    c.every_member.ensures
    ∙ every_same (λ q. get_or c.mark_node.new.flags q false) (λ q. eqb q c.args.one || get_or c.args.holds.now q false) c.args.participants 4
    (λ q l. ap (λ fs. get_or fs q false) c.mark_node.ensures ∙ with_one c.args.holds.now c.args.one q (inr (omega (arith, c.told-holds))))
