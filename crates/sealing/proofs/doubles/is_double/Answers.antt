use Rattle.std.proofs.Common.{◌≡◌, ◌+◌, false, is_some, None, sym, refl, ap, ◌∙◌, subst}
use Rattle.std.proofs.lemmas.Bool.{false≢true}
use Rattle.std.proofs.lemmas.Slice.Zip.{either_empty_from_Zip}
use Rattle.source.specs.Sources.{Has}
use Rattle.sealing.proofs.Deciding.{Known, known_skip, known-take, next_turn, decides, differs, without_last, with_last}
use Rattle.sealing.proofs.doubles.is_double.Goals as goal
use Rattle.sealing.proofs.doubles.is_double.Goals.{then-is_some+else-not-fits, else-is_some}

pub returns-then-lines-others : goal.returns-then-lines-others
returns-then-lines-others g c =
    decides g.G.Group.kind (g.R.KeySource.keys c.args.reader.now) c.args.lines.now c.args.others.now false (λ e. absurd (false≢true e), λ s. absurd (c.if-lines-others.true (sym s.0)))

pub returns-then-not-fits : goal.returns-then-not-fits
returns-then-not-fits g c =
    let reader = g.R.KeySource.keys c.args.reader.now in
    let has : Has reader c.in-Some.i = sym (c.if-is_some.ensures ∙ ap is_some c.key.ensures) in
    differs g.G.Group.kind reader c.args.lines.now c.args.others.now c.if-lines-others.false c.loop-i.invariant (subst (Has reader) c.in-Some.ensures.steps.1 has) (λ f. false≢true (c.if-not-fits.ensures.1 f))

pub loop-i-preserved : goal.loop-i-preserved
loop-i-preserved g c =
    let k = g.G.Group.kind in
    let reader = g.R.KeySource.keys c.args.reader.now in
    let lines = c.args.lines.now in
    let others = c.args.others.now in
    let step = c.in-Some.ensures.steps in
    let i = c.loop-i.i-iterator.count in
    let t = c.loop-i.invariant in
    let asked : c.key.result ≡ reader i = c.key.ensures ∙ ap reader step.1 in
    let known : Known k reader lines others (i + 1) c.if-is_some.last =
    elim c.if-is_some.branch [
      | then-is_some+else-not-fits w ↦
          let has : Has reader i = sym (w.if-is_some.ensures ∙ ap is_some asked) in
          subst (Known k reader lines others (i + 1)) (sym w.last-is) (known-take k reader lines others i c.loop-i.last c.loop-i.shift t.known has (w.if-not-fits.ensures.0 refl) t.so_far)
      | else-is_some w ↦
          let lacks : false ≡ is_some (reader i) = w.if-is_some.ensures ∙ ap is_some asked in
          subst (Known k reader lines others (i + 1)) (sym w.last-is) (known_skip k reader lines others i c.loop-i.last t.known (λ has. false≢true (lacks ∙ has)))
    ] in
    next_turn k reader lines others t step.0.0 step.0.1 step.2 (cc) known

pub returns-then-is_none : goal.returns-then-is_none
returns-then-is_none g c =
    let at = c.loop-i.i-iterator.iter in
    let end = either_empty_from_Zip at c.next.new.self.iter None refl c.in-None.ensures.steps.0 in
    let lacks = sym (ap is_some c.key-2.ensures) ∙ c.if-is_none.ensures in
    without_last g.G.Group.kind (g.R.KeySource.keys c.args.reader.now) c.args.lines.now c.args.others.now c.if-lines-others.false c.loop-i.invariant end (λ has. false≢true (sym lacks ∙ has))

pub returns : goal.returns
returns g c =
    let at = c.loop-i.i-iterator.iter in
    let end = either_empty_from_Zip at c.next.new.self.iter None refl c.in-None.ensures.steps.0 in
    let has = sym (ap is_some c.key-2.ensures) ∙ c.if-is_none.ensures in
    with_last g.G.Group.kind (g.R.KeySource.keys c.args.reader.now) c.args.lines.now c.args.others.now c.if-lines-others.false c.loop-i.invariant end has c.fits-2.ensures
