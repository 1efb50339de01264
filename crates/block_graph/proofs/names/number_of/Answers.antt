use Rattle.std.proofs.Common.{ℕ, List, sym, ◌∙◌}
use Rattle.std.specs.{Borrow.{Bor}, Str.{bytes_eq}}
use Rattle.block_graph.proofs.Numbered.{position_map}
use Rattle.block_graph.proofs.names.number_of.Goals as goal

pub returns : goal.returns
returns c = c.get_index_of.ensures.index ∙ sym (position_map (bytes_eq c.args.name.now) (λ (n : Bor (List ℕ)). n.now) c.args.names.now.keys)
