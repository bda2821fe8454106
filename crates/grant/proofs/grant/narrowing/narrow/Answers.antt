use Rattle.cover.proofs.Empty.{no_rows_no_keys}
use Rattle.cover.proofs.Existing.{cover_is_one}
use Rattle.grant.proofs.Lawfully.{narrow-continues}
use Rattle.grant.proofs.grant.narrowing.narrow.Goals as goal

pub returns-clause-lawful : goal.returns-clause-lawful
returns-clause-lawful g c = narrow-continues g.C.Cipher.encrypted c.narrow_with.ensures

pub returns-clause-covers : goal.returns-clause-covers
returns-clause-covers g c = cover_is_one

pub returns-clause-nothing : goal.returns-clause-nothing
returns-clause-nothing g c = no_rows_no_keys
