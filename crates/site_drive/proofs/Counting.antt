-- Failed calls, counted twice.
use Rattle.std.proofs.Common.{◌≡◌, ℕ, ◌+◌, ◌-◌, ◌^◌, ◌<◌, min, arith}
use Rattle.site_drive.specs.Links.{RoseBy}
use Rattle.site_drive.specs.Sending.{Counted}

rose_by_none : (n : ℕ) → RoseBy 0 n n
rose_by_none n fits = omega (arith, fits)

pub rose_on : (a b k l m : ℕ) → RoseBy a k l → RoseBy b l m → RoseBy (a + b) k m
rose_on a b k l m first second fits =
    let at : l ≡ min (k + a) (2 ^ 64 - 1) = first fits in
    let below : l < 2 ^ 64 = omega (arith, at) in
    let then : m ≡ min (l + b) (2 ^ 64 - 1) = second below in
    omega (arith, at, then, fits)

pub none_counted : (mine link : ℕ) → Counted mine mine link link
none_counted mine link = record { calls = 0; here = rose_by_none mine; there = rose_by_none link }

pub counted_on : (k l m i j o : ℕ) → Counted k l i j → Counted l m j o → Counted k m i o
counted_on k l m i j o first second = record {
  calls = first.calls + second.calls;
  here = rose_on first.calls second.calls k l m first.here second.here;
  there = rose_on first.calls second.calls i j o first.there second.there;
}

-- one's own count began at none
pub told_by : (mine i o : ℕ) → Counted 0 mine i o → RoseBy mine i o
told_by mine i o c fits =
    let own : mine ≡ min (0 + c.calls) (2 ^ 64 - 1) = c.here (omega arith) in
    let links : o ≡ min (i + c.calls) (2 ^ 64 - 1) = c.there fits in
    omega (arith, own, links, fits)
