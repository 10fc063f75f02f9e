mod Soundness
