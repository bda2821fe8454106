use Rattle.std.proofs.Common.{sym, ◌∙◌, arith}
use Rattle.grant.specs.Grants.{rows_of}
use Rattle.grant.proofs.Found.{rows-low}
use Rattle.grant.proofs.Keyed.{found_key}
use Rattle.grant.proofs.Lawfully.{keeps_to}
use Rattle.grant.proofs.grant.reading.GrantKeySource.key.Goals as goal

pub returns-in_err-row-clause-lawful : goal.returns-in_err-row-clause-lawful
returns-in_err-row-clause-lawful g c = keeps_to g.C.Cipher.encrypted g.G.Group.KEY_WORDS g.G.Group.made c.args.self.now

pub returns-clause-is : goal.returns-clause-is
returns-clause-is g c =
    let s = c.args.self.now in
    let here = found_key g.C.Cipher.encrypted g.G.Group.KEY_WORDS g.G.Group.made c.args.number (rows_of s) c.in_ok-row.row (rows-low s.height.levels s.count s.rows s.height.fits s.sound) (sym c.row_over.ensures ∙ c.in_ok-row.was) in
    grind (arith, c.key.ensures)

pub returns-clause-lawful : goal.returns-clause-lawful
returns-clause-lawful g c = keeps_to g.C.Cipher.encrypted g.G.Group.KEY_WORDS g.G.Group.made c.args.self.now
