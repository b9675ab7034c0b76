-- Theorems to read: SubElements (a sub-tensor's elements are the plane's), Slices (a sub-tensor copied is a slice of the plane), Mirrored
-- (a plane mirrored in one dimension is the plane, with that coordinate counted from the other end).
pub mod SubElements
pub mod Slices
pub mod Mirrored
-- Laws over plain values, which they cite: coordinates of the dimensions that stay, strides asked for by 0, moves that take a box.
pub mod Spread
pub mod Compact
pub mod Boxes
