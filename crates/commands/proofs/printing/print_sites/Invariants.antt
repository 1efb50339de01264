-- the lines so far were put
use Rattle.std.proofs.Common.{◌≡◌, ℕ, length, take}
use Rattle.std.specs.{List.{flat_map, enumerate_from}, declared.option.Option.{Option}}
use Rattle.image_model.specs.declared.site.Site.{Site}
use Rattle.flow_text.specs.Texts.{site_text}
use Rattle.osek_io.specs.Sunk.{sunk}
use Rattle.command_runs.specs.Playing.{given, Puts}
use Rattle.commands.proofs.printing.print_sites.Given as goal

abbrev pub invariant-loop-block : goal.invariant-loop-block
invariant-loop-block g l = record {
  put : Puts (given (sunk g.O.Sink l.initial.out) l.initial.buffer) (given (sunk g.O.Sink l.out) l.buffer) (flat_map (λ (d : ℕ × Option Site). site_text l.image.app l.version d.0 d.1) (take l.block (enumerate_from 0 l.image.sites)));
  room : length l.line ≡ length l.fn.line;
}
