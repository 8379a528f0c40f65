use Rattle.rules.proofs.Choices.{choice_settled}
use Rattle.rules.proofs.choice_is_settled.Goals as goal

pub returns : goal.returns
returns c = choice_settled
