-- `job::plan_masks` takes the eight masks in their order.
use Rattle.std.proofs.Common.{rules, ◌∙◌, ap, ℕ, map}
use Rattle.areas.specs.Mapped.{maps_all, eight_items}
use Rattle.layout.specs.File.{entry_at}
use Rattle.job.proofs.plan_masks.Goals as goal

pub returns : goal.returns
returns c =
    let mask : ℕ → ℕ = λ table. (entry_at c.args.s.now table).mask in
    maps_all _ mask c.args.plan _ (λ x y q k. search rules) 8 (search rules) c.map.ensures.items
    ∙ ap (map mask) (eight_items c.args.plan (search rules))
