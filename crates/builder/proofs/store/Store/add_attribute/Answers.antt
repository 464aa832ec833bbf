use Rattle.std.proofs.Common.{◌≡◌, ◌+◌, ◌≤◌, length, ◌∙◌, arith}
use Rattle.builder.specs.Put.{put}
use Rattle.builder.specs.Stored.{state_in}
use Rattle.builder.specs.After.{with_attr}
use Rattle.builder.proofs.Puts.{put-put}
use Rattle.builder.proofs.store.Store.add_attribute.Goals as goal

pub returns : goal.returns
returns c =
    let s = c.args.self.now in
    let name = c.args.name.now in
    let value = c.args.value.now in
    let fits = c.requires.fits in
    let low : s.bytes.used ≤ length s.bytes.items.now = omega arith in
    let one = c.extend_from_slice.ensures in
    let two = c.extend_from_slice-2.ensures in
    let bytes = two.items ∙ ((λ q. put (one.items q) (one.used q) value) ∙ put-put s.bytes.items.now s.bytes.used name value low) in
    let long : c.extend_from_slice-2.new.self.used ≡ s.bytes.used + (length name + length value) = omega (arith, one.used, two.used) in
    let after = with_attr (state_in s) name value in
    λ q. record {
      nodes = after.nodes;
      attrs = c.push.ensures.items q;
      bytes = bytes q;
      used = record { nodes = after.used.nodes; attrs = c.push.ensures.used q; bytes = long q };
      height = after.height;
      current = after.current;
      last = after.last;
      fresh = after.fresh;
    }
