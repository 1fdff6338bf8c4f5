-- Lines: what an answer comes to, and the reply that it comes from.
use Rattle.std.proofs.Common.{◌≡◌, refl}
use Rattle.model.specs.Calls.{number_of}
use Rattle.model.specs.declared.RunWord.TheVariants.{Stopped, Waiting, Spent}
use Rattle.model.specs.declared.Reply.{Reply}
use Rattle.model.specs.declared.Reply.TheVariants.{Refused, Accepted, Ran}
use Rattle.text.specs.Lines.{state_name, answer_name, kind_of, kind_state, kind_answer}

pub state_is : (reply : Reply) → kind_state (kind_of reply) ≡ state_name reply
state_is (Refused number) = refl
state_is (Accepted room) = refl
state_is (Ran Stopped units room) = refl
state_is (Ran Waiting units room) = refl
state_is (Ran Spent units room) = refl

pub answer_is : (reply : Reply) → kind_answer (kind_of reply) (number_of reply) ≡ answer_name reply
answer_is (Refused number) = refl
answer_is (Accepted room) = refl
answer_is (Ran Stopped units room) = refl
answer_is (Ran Waiting units room) = refl
answer_is (Ran Spent units room) = refl
