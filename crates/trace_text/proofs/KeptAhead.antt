-- What a feed keeps where no line comes out.
use Rattle.std.proofs.Common.{◌≡◌, ℕ, ◌-◌, Bool, List, [], None, take, drop, sym, ◌∙◌, ap, arith}
use Rattle.trace_text.specs.Feeds.{FeedState, peeled, left_by, after_next}

pub none_comes_out : (s v : FeedState) (line ahead : List ℕ) (finished : Bool) → v ≡ s → v.ahead ≡ ahead → v.finished ≡ finished → line ≡ [] → peeled finished ahead ≡ None → record { ahead = ahead; finished = finished; line = line } ≡ after_next s
none_comes_out s v line ahead finished same is done nothing h =
    let seen : FeedState = record { ahead = ahead; finished = finished; line = v.line } in
    let is_seen : seen ≡ s = (λ i. record { ahead = sym is i; finished = sym done i; line = v.line }) ∙ same in
    (λ i. record { ahead = ahead; finished = finished; line = nothing i }) ∙ sym (ap (left_by seen) h) ∙ ap after_next is_seen

pub empty_range : (n : ℕ) (xs : List ℕ) → take (n - n) (drop n xs) ≡ []
empty_range n xs = let none : n - n ≡ 0 = omega arith in ap (λ k. take k (drop n xs)) none
