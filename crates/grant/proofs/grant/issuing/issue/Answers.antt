use Rattle.cover.proofs.Existing.{cover_is_one}
use Rattle.grant.proofs.Lawfully.{issue-continues}
use Rattle.grant.proofs.grant.issuing.issue.Goals as goal

pub returns-clause-lawful : goal.returns-clause-lawful
returns-clause-lawful g c = issue-continues g.C.Cipher.encrypted c.issue_with.ensures

pub returns-clause-covers : goal.returns-clause-covers
returns-clause-covers g c = cover_is_one
