-- How a node carries an effect out: write by write, as far as the budget goes, with what is then volatile and sent.
use Rattle.std.specs.Prelude.{◌≡◌, ℕ, Bool, List}
use Rattle.model.specs.Messages.{Message}
use Rattle.model.specs.Node.{Node}
use Rattle.model.specs.Handling.{Effect, Reaction as PlainReaction, lost, taken}
use Rattle.nodes.specs.declared.response.Reaction.{Reaction}
use Rattle.nodes.specs.declared.response.Reaction.TheVariants.{Taken, Lost}
use Rattle.nodes.specs.Responses.{sent_meaning}
use Rattle.nodes.specs.Budgets.{Made}

-- what is left of the budget, what was sent, the node and what of its memory is durable, before power fails
pub record Done (left : ℕ) (e : Effect) (n : Node) (durable : ℕ → Bool) (sent : List Message) (left' : ℕ) (n' : Node) (durable' : ℕ → Bool) : Type 0 where
  pub made : Made left e.writes n.stores durable left' n'.stores durable'
  pub volatile : n'.volatile ≡ e.volatile
  pub answer : sent ≡ e.sent

-- what a node makes of a message; one that is lost alters nothing
abbrev pub Reacts : ℕ → PlainReaction → Node → (ℕ → Bool) → Reaction → ℕ → Node → (ℕ → Bool) → Type 0
Reacts left lost n durable (Taken s) left' n' durable' = ⊥
Reacts left lost n durable Lost left' n' durable' = (left' ≡ left) × (n' ≡ n) × (durable' ≡ durable)
Reacts left (taken e) n durable (Taken s) left' n' durable' = Done left e n durable (sent_meaning s) left' n' durable'
Reacts left (taken e) n durable Lost left' n' durable' = ⊥
