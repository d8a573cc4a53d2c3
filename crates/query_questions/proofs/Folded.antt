-- The paths of a condition, by its parts.
use Rattle.std.proofs.Common.{◌≡◌, List, [], ◌∷◌, ◌++◌, map, refl, sym, ap, ◌∙◌}
use Rattle.std.specs.List.{flat_map}
use Rattle.apex_rows.specs.declared.query.Path.{Path}
use Rattle.apex_rows.specs.declared.query.Cond.{Cond}
use Rattle.apex_rows.specs.declared.query.Cond.TheVariants.{All, Any, rolls-All, rolls-Any}
use Rattle.apex_rows.specs.declared.query.Cond.TheFolds.{fold-roll-Cond}
use Rattle.apex_rows.specs.declared.query.Cond.TheOpen.{Cond-F}
use Rattle.query_meaning.specs.Parents.{cond_paths, paths_step}

joined : (cs : List Cond) → flat_map (λ (p : List Path). p) (map cond_paths cs) ≡ flat_map cond_paths cs
joined [] = refl
joined (c ∷ cs) = ap (λ ps. cond_paths c ++ ps) (joined cs)

pub paths_All : (cs : List Cond) → cond_paths (All cs) ≡ flat_map cond_paths cs
paths_All cs = ap cond_paths (sym (rolls-All cs)) ∙ fold-roll-Cond (List Path) paths_step (Cond-F.All cs) ∙ joined cs

pub paths_Any : (cs : List Cond) → cond_paths (Any cs) ≡ flat_map cond_paths cs
paths_Any cs = ap cond_paths (sym (rolls-Any cs)) ∙ fold-roll-Cond (List Path) paths_step (Cond-F.Any cs) ∙ joined cs
