-- no line comes out
use Rattle.std.proofs.Common.{◌≡◌, ◌-◌, None, length, take, drop, refl, sym, ◌∙◌, ap}
use Rattle.trace_text.specs.Feeds.{peeled}
use Rattle.trace_text.proofs.{KeptAhead.{none_comes_out, empty_range}, Parts.{whole_tail}}
use Rattle.trace_text.proofs.feed.Feed.next.Goals as goal

pub returns-after-self-clause-after : goal.returns-after-self-clause-after
returns-after-self-clause-after c =
    let f = c.self.inside in
    let all = c.deref.result.now in
    let ahead : take (length all - f.ahead) (drop f.ahead all) ≡ drop f.ahead f.bytes.items = whole_tail f.ahead all ∙ ap (drop f.ahead) c.deref.ensures.value in
    let nothing : peeled f.finished (drop f.ahead f.bytes.items) ≡ None = sym (ap (peeled f.finished) ahead) ∙ c.in-None.ensures.peels in
    none_comes_out c.args.self.now _ (take (f.line_start - f.line_start) (drop f.line_start f.bytes.items)) (drop f.ahead f.bytes.items) f.finished c.self.view_is refl refl
    (empty_range f.line_start f.bytes.items) nothing
