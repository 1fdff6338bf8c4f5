-- What is proved of specs/Completion.
use Rattle.std.specs.Prelude.{◌≡◌, refl}
use Rattle.model.specs.Completion.{retired}

pub wraps : (retired 0 ≡ 1) × (retired 2_147_483_647 ≡ 2_147_483_648) × (retired 4_294_967_295 ≡ 0)
unfolding retired
wraps = (refl, refl, refl)
