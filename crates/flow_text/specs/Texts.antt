-- What is told of an image, and what is shown of an application and its analysis (this project's profile).
use Rattle.std.specs.{Prelude.{ℕ, List, [], ◌++◌, length, Some, None}, List.{flat_map, enumerate_from}, declared.option.Option.{Option}}
use Rattle.osek_standard.specs.declared.app.App.{App}
use Rattle.image_model.specs.declared.{site.Site.{Site}, image.{Image.{Image}, Version.{Version}}}
use Rattle.image_model.specs.declared.image.Version.TheVariants as version
use Rattle.abstract_state.specs.declared.edge.FlowEdge.{FlowEdge}
use Rattle.flow_text.specs.FlowLines.{told_line, edge_line, counts_line, info_line}

-- the line of a block that is a site of an image of this version, and nothing for each other
abbrev pub site_text : App → Version → ℕ → Option Site → List ℕ
site_text app v b None = []
site_text app v b (Some x) = told_line app v b x

-- the lines of the sites, in the order of their blocks
abbrev pub sites_text : App → Version → List (Option Site) → List ℕ
sites_text app v sites = flat_map (λ (d : ℕ × Option Site). site_text app v d.0 d.1) (enumerate_from 0 sites)

-- the lines of edges
abbrev pub edges_text : App → List FlowEdge → List ℕ
edges_text app edges = flat_map (edge_line app) edges

-- What is told of an image.
abbrev pub info_text : Image → List ℕ
info_text i = info_line i ++ sites_text i.app i.version i.sites

-- What is shown of an application whose sites have these forms, and whose least table has these edges and so many values.
-- Nothing is shown of what is known of a status.
abbrev pub show_text : App → List (Option Site) → List FlowEdge → ℕ → List ℕ
show_text app sites edges values = sites_text app version.One sites ++ edges_text app edges ++ counts_line app values (length edges)
