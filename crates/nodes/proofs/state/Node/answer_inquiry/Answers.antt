-- A reply alone alters nothing; a forced abort is one write before it.
use Rattle.std.proofs.Common.{◌≡◌, ℕ, Bool, sym, refl, ◌∙◌, subst}
use Rattle.model.specs.Node.{Node}
use Rattle.model.specs.Handling.{Reaction as PlainReaction}
use Rattle.nodes.specs.declared.response.Reaction.{Reaction}
use Rattle.nodes.specs.Effects.{Reacts}
use Rattle.nodes.specs.Nodes.{node_meaning}
use Rattle.nodes.proofs.Reacting.{done_quiet, made_single, inquired_stands, inquired_forced, inquired_promised}
use Rattle.nodes.proofs.state.Node.answer_inquiry.Goals as goal

-- what is made of a message, given what the rules make of it and what the node says
reacts_by : (left left' : ℕ) (r s : PlainReaction) (n n' : Node) (d d' : ℕ → Bool) (a b : Reaction) → r ≡ s → a ≡ b → Reacts left s n d b left' n' d' → Reacts left r n d a left' n' d'
reacts_by left left' r s n n' d d' a b e f k =
    subst (λ x. Reacts left r n d x left' n' d') (sym f) (subst (λ x. Reacts left x n d b left' n' d') (sym e) k)

pub returns-then-has_entry : goal.returns-then-has_entry
returns-then-has_entry g c =
    let n = node_meaning g.M.Memory.bytes g.J.Journal.log c.args.self.now in
    let d = g.M.Memory.durable c.args.self.now.memory in
    reacts_by _ _ _ _ n n d d _ _ (inquired_stands c.args.inquiry.me n c.args.inquiry.tid c.args.inquiry.sender (sym c.has_entry.ensures ∙ c.if-has_entry.true)) c.replying.ensures
    (done_quiet c.args.budget.now.left n d _)

pub returns-then-is_forced : goal.returns-then-is_forced
returns-then-is_forced g c =
    let n = node_meaning g.M.Memory.bytes g.J.Journal.log c.args.self.now in
    let d = g.M.Memory.durable c.args.self.now.memory in
    reacts_by _ _ _ _ n n d d _ _ (inquired_forced c.args.inquiry.me n c.args.inquiry.tid c.args.inquiry.sender (sym c.has_entry.ensures ∙ c.if-has_entry.false) (sym c.is_forced.ensures ∙ c.if-is_forced.true)) c.replying-then-is_forced.ensures
    (done_quiet c.args.budget.now.left n d _)

pub returns : goal.returns
returns g c =
    let log = g.J.Journal.log in
    let n = node_meaning g.M.Memory.bytes log c.args.self.now in
    let n' = node_meaning {P = g.row.J-Place.Denot} g.M.Memory.bytes log (record { memory = c.args.self.now.memory; journal = c.force_abort.new.journal; volatile = c.args.self.now.volatile }) in
    let d = g.M.Memory.durable c.args.self.now.memory in
    let left = c.args.budget.now.left in
    let left' = c.force_abort.new.budget.left in
    reacts_by left left' _ _ n n' d d _ _
    (inquired_promised c.args.inquiry.me n c.args.inquiry.tid c.args.inquiry.sender (sym c.has_entry.ensures ∙ c.if-has_entry.false) (sym c.is_forced.ensures ∙ c.if-is_forced.false) (sym c.is_forced_full.ensures ∙ c.if-is_forced_full.false))
    c.replying-2.ensures
    (record { made = made_single left left' _ n.stores n'.stores d d (c.force_abort.ensures (g.M.Memory.bytes c.args.self.now.memory) d); volatile = refl; answer = refl })
