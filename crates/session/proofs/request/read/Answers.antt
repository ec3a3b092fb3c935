use Rattle.session.proofs.Requests.{no_budget, no_content, a_request}
use Rattle.session.proofs.request.read.Goals as goal

pub returns-in_default : goal.returns-in_default
returns-in_default c = no_budget _ _ c.in_default.ensures

pub returns-in_default-read : goal.returns-in_default-read
returns-in_default-read c = no_content _ _ c.in-Some.ensures c.in_default-read.ensures

pub returns : goal.returns
returns c = a_request _ _ c.in-Some.ensures c.in-Ok.ensures c.rest.ensures
