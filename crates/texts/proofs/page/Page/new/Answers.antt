use Rattle.texts.proofs.Texts.{filled_none}
use Rattle.texts.proofs.page.Page.new.Goals as goal

pub invariant_of-result : goal.invariant_of-result
invariant_of-result c = filled_none
