mod Described
