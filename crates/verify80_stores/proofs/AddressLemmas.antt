-- Tables with an entry for each address.
use Rattle.verify80_stores.proofs.Names.{◌≡◌, ◌<◌, ℕ, map, range_with_len, get_or, ◌≤◌, arith, get_or_past, get_or-map-range_with_len, length-map-range_with_len}

pub read_at : {A : Type 0} (f : ℕ → A) (at : ℕ) (d : A) → at < 65536 → get_or (map f (range_with_len 0 65536)) at d ≡ f at
read_at f at d less = get_or-map-range_with_len f 0 65536 at at d less (omega arith)

pub read_past : {A : Type 0} (f : ℕ → A) (at : ℕ) (d : A) → 65536 ≤ at → get_or (map f (range_with_len 0 65536)) at d ≡ d
read_past f at d past = get_or_past (map f (range_with_len 0 65536)) at d (let long = length-map-range_with_len f 0 65536 in omega (arith, long, past))
