-- Messages between nodes, coordinators and recoveries, as plain values.
use Rattle.std.specs.Prelude.{ℕ, Bool, List}
use Rattle.model.specs.declared.party.Party.{Party}
use Rattle.model.specs.declared.vote.Vote.{Vote}
use Rattle.model.specs.Items.{Item}

pub data Body : Type 0 where
  prepare : ℕ → List Item → Body  -- the participants, bit q for node q; the items of the receiver
  voted : Vote → List ℕ → Body  -- with the bytes read, in item order
  finish : Bool → Body  -- whether the minitransaction is committed
  inquiry : Body
  reply : Bool → Body  -- whether the yes entry stands
  query : Body
  settled : Body

pub record Message : Type 0 where
  pub tid : ℕ
  pub sender : Party
  pub receiver : Party
  pub body : Body
