-- What the law of open says of a coarse reader. Assumes nothing.
use Rattle.std.proofs.Common.{ℕ, List, Result}
use Rattle.refusal.specs.declared.Refusal.{Refusal}
use Rattle.group.specs.Kind.{Kind}
use Rattle.store.specs.Contents.{Contents}
use Rattle.source.specs.Sources.{Keys}
use Rattle.sealing.specs.History.{OpenLaw}
use Rattle.layers.specs.Layers.{coarse}
use Rattle.layers.specs.Fit.{Posted, accepted_posts}
use Rattle.layers.proofs.Fitting.{held, fits}
use Rattle.layer_clients.specs.Readers.{CoarseLaw}

pub coarse_law : {G V : Type 0} (k : Kind G V) (step : ℕ) (owner poster reader : Keys G) {posts : List (Result ℕ Refusal)} {envelopes : Contents G} {lines : List G} {a b : ℕ} {answer : Result G Refusal} →
    Posted k step owner poster posts envelopes → OpenLaw k owner (coarse k step envelopes.entries reader) lines a b answer → CoarseLaw k step (accepted_posts posts) poster reader lines a b answer
coarse_law k step owner poster reader {a = a} {b = b} run law =
    let f = fits k step owner poster (held k step run) in
    record {
      answers = (
        λ ok. let o = law.answers.0 ok in (o.0, o.1, (f.reads reader a).0 o.2, (f.reads reader b).0 o.3),
        λ h. law.answers.1 (h.0, h.1, (f.reads reader a).1 h.2, (f.reads reader b).1 h.3),
      );
      figure = λ agree. law.figure (f.agrees reader agree);
    }
